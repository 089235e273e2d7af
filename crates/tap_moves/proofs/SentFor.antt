-- Whom the frames are about that a node sends at a frame of a join, and that no Done is among them but a root's last one.
use Rattle.std.proofs.Common.{◌≡◌, ◌==◌, ◌⊎◌, ℕ, ◌+◌, ◌<◌, Bool, true, false, List, [], ◌∷◌, ◌++◌, length, map, cond, Some, arith, ap, refl, sym, subst, ◌∙◌, inl, inr}
use Rattle.std.proofs.lemmas.Bool.{ne_eqb}
use Rattle.tap_name.specs.declared.slot.Offered.{Offered}
use Rattle.tap_name.specs.declared.slot.Slot.{Slot}
use Rattle.tap_session.specs.declared.parent.Parent.TheVariants.{Node, Root}
use Rattle.tap_session.specs.Session.{Session}
use Rattle.tap_session.specs.Sessions.{answer_to}
use Rattle.tap_table.specs.declared.tie.Tie.{Tie}
use Rattle.tap_pointer.specs.declared.lay.Lay.{Lay}
use Rattle.tap_multicast.specs.declared.covers.Covered.{Covered}
use Rattle.tap_multicast.specs.declared.covers.Covered.TheVariants.{Already, Now}
use Rattle.tap_multicast.specs.declared.target.Target.{Target}
use Rattle.tap_join.specs.Hello.{words_of}
use Rattle.tap_join.specs.Seek.{sought}
use Rattle.tap_join.specs.declared.sought.Sought.TheVariants.{Surrogate}
use Rattle.tap_wire.specs.declared.frame.Body.{Body}
use Rattle.tap_wire.specs.declared.frame.Body.TheVariants.{Ack, Done, Heard, Seek, Tell}
use Rattle.tap_wire.specs.declared.frame.Frame.{Frame}
use Rattle.tap_wire.specs.declared.frame.TellFields.{TellFields}
use Rattle.tap_wire.specs.declared.kind.Kind.{Kind}
use Rattle.tap_wire.specs.declared.kind.Kind.TheVariants as kind
use Rattle.tap_wire.specs.Kind.{kind_of}
use Rattle.tap_rule.specs.Answers.{answer_for, answer_sends, with_session}
use Rattle.tap_rule.specs.Ceasing.{takes_tell_ceased}
use Rattle.tap_rule.specs.Completed.{SendsAt}
use Rattle.tap_rule.specs.Covering.{Request, answers_awaited, covers_as, first_request, greeting, pins_and_covers, request_of, takes_seek, takes_tell, tell_for, with_level}
use Rattle.tap_rule.specs.Event.{Acted}
use Rattle.tap_rule.specs.FrameRules.{frame_at_ceased, frame_at_core}
use Rattle.tap_rule.specs.JoinSteps.{found_for}
use Rattle.tap_rule.specs.Joining.{hello_words}
use Rattle.tap_rule.specs.RuleLaws.{IsCarriedOut, frame_to, tell_of}
use Rattle.tap_rule.specs.Node.{NodeState, Status, join_session_at, name_of}
use Rattle.tap_rule.specs.Node.Status.{Ceased, Core, Gone, Joining, Leaving}
use Rattle.tap_rule.specs.Reaction.{Message, Reaction, message, pin_word, sends, with_pin, with_words}
use Rattle.tap_rule.specs.Sending.{by_receiver, lay_frame, message_frame}
use Rattle.tap_rule.specs.Sent.{AreSent, IsAmong}
use Rattle.tap_rule.specs.LinkSteps.{AnswerStep}
use Rattle.tap_rule.specs.Strange.{is_strange}
use Rattle.tap_rule.specs.Hellos.{core_hello, joining_hello}
use Rattle.tap_rule.proofs.Among.{among-either, among-map_from}
use Rattle.tap_rule.proofs.AnswerSteps.{other_number}
use Rattle.tap_rule.proofs.CarriedOut.{frame_law}
use Rattle.tap_rule.proofs.JoinSteps.{hello_law}
use Rattle.tap_safety.specs.Frames.{HelloFields, hello_body, tell_body}
use Rattle.tap_safety.specs.Joins.{NoDoneAmong, SendsDone, about_of}
use Rattle.tap_safety.specs.Exchanges.{IsSent, numbered_from}
use Rattle.tap_safety.proofs.SoftKept.{sent_each}
use Rattle.tap_safety.proofs.Said.{Said, said_of}
use Rattle.tap_safety.proofs.Said.Said.{IsDone, IsHeard, IsHello, IsTell}
use Rattle.tap_moves.specs.ByRule.{taken_at}
use Rattle.tap_moves.proofs.Exchanged.{sent_numbered}
use Rattle.tap_moves.proofs.FramesMade.{meets_sent}
use Rattle.tap_moves.proofs.SeekMade.{uncovered}

-- a frame with these ends is about b, if it is about anybody, and is no Done
abbrev IsForKind : List ℕ → List ℕ → List ℕ → Kind → Type 0
IsForKind b from to kind.Hello = to ≡ b
IsForKind b from to kind.Heard = from ≡ b
IsForKind b from to kind.Done = ⊥
IsForKind b from to other = Unit {0}

abbrev pub IsFor : List ℕ → List ℕ → List ℕ → Body → Type 0
IsFor b from to (Tell joiner prefix level session depth watch) = joiner ≡ b
IsFor b from to other = IsForKind b from to (kind_of other)

-- each frame that is sent
abbrev pub SendsFor : List ℕ → List Frame → Type 0
SendsFor b sent = (from to : List ℕ) (body : Body) → IsSent sent from to body → IsFor b from to body

-- whom it is about
pub about_is : (b from to : List ℕ) {body : Body} → Said body → (c : List ℕ) → IsFor b from to body → about_of body from to ≡ Some c → c ≡ b
about_is b from to (IsTell tell watch) c is of = let same : tell.joiner ≡ c = cc in sym same ∙ is
about_is b from to (IsHello hello) c is of = let same : to ≡ c = cc in sym same ∙ is
about_is b from to (IsHeard session) c is of = let same : from ≡ c = cc in sym same ∙ is
about_is b from to IsDone c is of = absurd is
about_is b from to _ c is of = absurd (cc)

-- no Done is among them
pub none_done : (b : List ℕ) (n : ℕ) (sent : List Frame) → SendsFor b sent → NoDoneAmong (numbered_from n sent)
none_done b n sent sends m w c among =
    sends w c Done (sent_numbered m (record { from = w; to = c; body = Done }) n sent among)

-- ---- by messages

abbrev pub AreFor : List ℕ → List ℕ → List Message → Type 0
AreFor b own messages = (m : Message) → IsAmong m messages → IsFor b own m.to m.body

pub one_for : (b own to : List ℕ) (body : Body) → IsFor b own to body → AreFor b own (message to body ∷ [])
one_for b own to body is m (inl same) = subst (λ (n : Message). IsFor b own n.to n.body) (sym same) is
one_for b own to body is m (inr never) = absurd never

pub none_for : (b own : List ℕ) → AreFor b own []
none_for b own m among = absurd among

pub sent_for : (b own : List ℕ) (words : List Tie) (messages : List Message) (sent : List Frame) → AreSent own words messages sent
    → AreFor b own messages → SendsFor b sent
sent_for b own words messages sent are each =
    sent_each own words messages sent are (λ from to body. IsFor b from to body) (λ to version on. tt)
    (λ to object server level version on. tt) each

-- ---- covers

greeting_for : (own : List ℕ) (request : Request) (session : ℕ) (first : Bool) (offer : List Offered)
    → AreFor request.joiner own (greeting request session first offer)
greeting_for own request session true offer = one_for request.joiner own request.joiner (core_hello session offer) refl
greeting_for own request session false offer = none_for request.joiner own

spread_for : (own : List ℕ) (request : Request) (session : ℕ) (first : Bool) (offer : List Offered) (left : List Slot)
    (targets : List Target)
    → AreFor request.joiner own (greeting request session first offer ++ map (tell_for request session left) targets)
spread_for own request session first offer left targets m among =
    elim (among-either m (greeting request session first offer) (map (tell_for request session left) targets) among) [
      | inl hello ↦ greeting_for own request session first offer m hello
      | inr tell ↦
          let found = among-map_from (tell_for request session left) m targets tell in
          subst (λ (n : Message). IsFor request.joiner own n.to n.body) (sym found.2) refl
    ]

module _ (node : NodeState) (request : Request) (words : List Tie) (acted : Acted) where
  abbrev own : List ℕ
  own = name_of node

  module _ (first : Bool) (offer : List Offered) (targets : List Target) (left : List Slot) where
    abbrev opening : Reaction
    opening =
        sends (with_session (with_level (with_pin node request.joiner) request) request.parent request.depth
        (answers_awaited first (length targets)))
        (greeting request (node.sessions.opened + 1) first offer ++ map (tell_for request (node.sessions.opened + 1) left) targets)

    opening_for : IsCarriedOut node (with_words words opening) acted → SendsFor request.joiner acted.sent
    opening_for carried =
        sent_for request.joiner own words
        (greeting request (node.sessions.opened + 1) first offer ++ map (tell_for request (node.sessions.opened + 1) left) targets)
        acted.sent carried.sent (spread_for own request (node.sessions.opened + 1) first offer left targets)

  -- the first cover of a joiner waits for the joiner at least
  first_for : (offer : List Offered) (targets : List Target) (left : List Slot)
      → IsCarriedOut node (with_words words (covers_as (with_pin node request.joiner) request (Now true offer targets left))) acted
      → SendsFor request.joiner acted.sent
  first_for offer targets left carried =
      let some : (answers_awaited true (length targets) == 0) ≡ false = ne_eqb (length targets + 1) 0 (λ is. absurd (omega (arith, is))) in
      opening_for true offer targets left (rw some at carried)

  module _ (answers : IsFor request.joiner own (answer_for request.parent).to (answer_for request.parent).body) where
    answered_for : (state : NodeState) → IsCarriedOut node (with_words words (sends state (answer_for request.parent ∷ []))) acted
        → SendsFor request.joiner acted.sent
    answered_for state carried =
        sent_for request.joiner own words (answer_for request.parent ∷ []) acted.sent carried.sent (λ m among. elim among [
          | inl same ↦ subst (λ (n : Message). IsFor request.joiner own n.to n.body) (sym same) answers
          | inr never ↦ absurd never
        ])

    spread_as : (first : Bool) (offer : List Offered) (targets : List Target) (left : List Slot) (none : Bool)
        → IsCarriedOut node (with_words words (cond none
        (sends (with_level (with_pin node request.joiner) request) (answer_for request.parent ∷ [])) (opening first offer targets left)))
        acted → SendsFor request.joiner acted.sent
    spread_as first offer targets left true carried = answered_for (with_level (with_pin node request.joiner) request) carried
    spread_as first offer targets left false carried = opening_for first offer targets left carried

    found_as : (found : Covered) → IsCarriedOut node (with_words words (covers_as (with_pin node request.joiner) request found)) acted
        → SendsFor request.joiner acted.sent
    found_as Already carried = answered_for (with_pin node request.joiner) carried
    found_as (Now first offer targets left) carried =
        spread_as first offer targets left (answers_awaited first (length targets) == 0) carried

-- ---- a Tell, at a core, a joining and a ceased node

told_core : (node : NodeState) (request : Request) (acted : Acted)
    → IsFor request.joiner (name_of node) (answer_for request.parent).to (answer_for request.parent).body
    → IsCarriedOut node (pins_and_covers node request) acted → SendsFor request.joiner acted.sent
told_core node request acted answers carried =
    found_as node request (words_of (pin_word node request.joiner)) acted answers (found_for node request) carried

greets_for : (b own : List ℕ) (messages : List Message) (from : List ℕ) (tell : TellFields) → tell.joiner ≡ b
    → (messages ≡ message from (Ack tell.session) ∷ [])
    ⊎ ((session : ℕ) × (messages ≡ message tell.joiner (joining_hello session) ∷ [])) → AreFor b own messages
greets_for b own messages from tell is (inl ack) = subst (AreFor b own) (sym ack) (one_for b own from (Ack tell.session) tt)
greets_for b own messages from tell is (inr hello) =
    subst (AreFor b own) (sym hello.1) (one_for b own tell.joiner (joining_hello hello.0) is)

pub tell_for_joiner : (node : NodeState) (from : List ℕ) (tell : TellFields) (watch : List Slot)
    → is_strange node (frame_to node from (tell_body tell watch)) ≡ false
    → (node.status ≡ Core) ⊎ ((node.status ≡ Joining) ⊎ (node.status ≡ Ceased))
    → SendsFor tell.joiner (taken_at node from (tell_body tell watch)).sent
unfolding frame_at_core frame_at_ceased
tell_for_joiner node from tell watch known (inl at) =
    told_core node (request_of from tell watch) (taken_at node from (tell_body tell watch)) tt
    (frame_law node (frame_to node from (tell_of tell watch)) (takes_tell node from tell watch) known (rw at refl))
tell_for_joiner node from tell watch known (inr (inl at)) =
    let sent = meets_sent node from tell watch known at in
    sent_for tell.joiner (name_of node) (words_of (pin_word node tell.joiner)) sent.messages
    (taken_at node from (tell_body tell watch)).sent sent.are
    (greets_for tell.joiner (name_of node) sent.messages from tell refl sent.answers)
tell_for_joiner node from tell watch known (inr (inr at)) =
    let carried = frame_law node (frame_to node from (tell_of tell watch)) (takes_tell_ceased node from tell.session) known (rw at refl) in
    sent_for tell.joiner (name_of node) [] (message from (Ack tell.session) ∷ []) (taken_at node from (tell_body tell watch)).sent
    carried.sent (one_for tell.joiner (name_of node) from (Ack tell.session) tt)

-- ---- a Seek at the surrogate, and a Hello

pub seek_for_joiner : (node : NodeState) (from joiner : List ℕ) (prefix : ℕ) → node.status ≡ Core
    → is_strange node (frame_to node from (Seek joiner)) ≡ false → sought node.ties.table joiner ≡ Surrogate prefix
    → SendsFor joiner (taken_at node from (Seek joiner)).sent
unfolding frame_at_core
seek_for_joiner node from joiner prefix at known is =
    let sought_on = frame_law node (frame_to node from (Seek joiner)) (takes_seek node joiner) known (rw at refl) in
    let carried : IsCarriedOut node (pins_and_covers node (first_request node joiner prefix)) (taken_at node from (Seek joiner)) =
    rw is at sought_on in
    let none = uncovered node from joiner known in
    first_for node (first_request node joiner prefix) (words_of (pin_word node joiner)) _ _ _ _ (rw none at carried)

pub hello_for_own : (node : NodeState) (from : List ℕ) (hello : HelloFields) → node.status ≡ Joining
    → is_strange node (frame_to node from (hello_body hello)) ≡ false
    → SendsFor (name_of node) (taken_at node from (hello_body hello)).sent
hello_for_own node from hello at known =
    let step = hello_law node from hello at known in
    sent_for (name_of node) (name_of node) (hello_words node from hello.is_core hello.links) (message from (Heard hello.session) ∷ [])
    (taken_at node from (hello_body hello)).sent step.sent (one_for (name_of node) (name_of node) from (Heard hello.session) refl)

-- ---- an answer: nothing, or the answer of the parent

answers_as : (own : List ℕ) (messages others : List Message) (sent : List Frame) → messages ≡ others → AreSent own [] messages sent
    → AreSent own [] others sent
answers_as own messages others sent same are = subst (λ ms. AreSent own [] ms sent) same are

pub answer_for_none : (b : List ℕ) (node : NodeState) (k : ℕ) (a : Session) (acted : Acted) → AnswerStep node k acted
    → join_session_at node k ≡ Some a → 1 < a.waiting → SendsFor b acted.sent
answer_for_none b node k a acted step is more =
    let answers : answer_sends (answer_to (join_session_at node k)) ≡ [] = rw (is, other_number a.waiting more) refl in
    sent_for b (name_of node) [] [] acted.sent
    (answers_as (name_of node) (answer_sends (answer_to (join_session_at node k))) [] acted.sent answers step.sent)
    (none_for b (name_of node))

pub answer_for_parent : (b : List ℕ) (node : NodeState) (k : ℕ) (a : Session) (w : List ℕ) (m : ℕ) (acted : Acted)
    → AnswerStep node k acted → join_session_at node k ≡ Some a → a.waiting ≡ 1 → a.parent ≡ Node w m → SendsFor b acted.sent
answer_for_parent b node k a w m acted step is last parent =
    let answers : answer_sends (answer_to (join_session_at node k)) ≡ message w (Ack m) ∷ [] = rw (is, last, parent) refl in
    sent_for b (name_of node) [] (message w (Ack m) ∷ []) acted.sent
    (answers_as (name_of node) (answer_sends (answer_to (join_session_at node k))) (message w (Ack m) ∷ []) acted.sent answers step.sent)
    (one_for b (name_of node) w (Ack m) tt)

-- whatever an answer makes a node send is about nobody
abbrev IsOfNobodyKind : Kind → Type 0
IsOfNobodyKind kind.Tell = ⊥
IsOfNobodyKind kind.Hello = ⊥
IsOfNobodyKind kind.Heard = ⊥
IsOfNobodyKind other = Unit {0}

abbrev IsOfNobody : Body → Type 0
IsOfNobody body = IsOfNobodyKind (kind_of body)

nobody_is : (from to : List ℕ) {body : Body} → Said body → (c : List ℕ) → IsOfNobody body → about_of body from to ≡ Some c → ⊥
nobody_is from to (IsTell tell watch) c is of = is
nobody_is from to (IsHello hello) c is of = is
nobody_is from to (IsHeard session) c is of = is
nobody_is from to _ c is of = absurd (cc)

-- the last answer of a root session: one Done, to the joiner
ends_once : (own joiner : List ℕ) (lays : List Lay) (n : ℕ)
    → SendsDone (numbered_from n (message_frame own (message joiner Done) ∷ map (lay_frame own) lays)) joiner
ends_once own joiner lays n = record {
  from = own;
  number = n;
  among = inl (refl, refl);
  only = λ m w c among. elim among [
    | inl is ↦ (is.0, ap (λ (f : Frame). f.to) is.1)
    | inr later ↦
        let done : Frame = record { from = w; to = c; body = Done } in
        let found = among-map_from (lay_frame own) done lays (sent_numbered m done (n + 1) (map (lay_frame own) lays) later) in
        let wrong : Done ≡ (lay_frame own found.0).body = ap (λ (f : Frame). f.body) found.2 in
        absurd (cc)
  ];
}

pub sends_done : (status : Status) (node : NodeState) (joiner : List ℕ) (acted : Acted) (n : ℕ)
    → SendsAt status node (message joiner Done ∷ []) acted → SendsDone (numbered_from n acted.sent) joiner
unfolding by_receiver
sends_done Joining node joiner acted n step = rw step.sent.all (ends_once (name_of node) joiner _ n)
sends_done Core node joiner acted n step = rw step.sent.all (ends_once (name_of node) joiner _ n)
sends_done Leaving node joiner acted n step = rw step.sent.all (ends_once (name_of node) joiner _ n)
sends_done Gone node joiner acted n step = rw step.sent (ends_once (name_of node) joiner [] n)
sends_done Ceased node joiner acted n step = rw step.sent (ends_once (name_of node) joiner [] n)

-- and it is about nobody
pub done_of_nobody : (node : NodeState) (k : ℕ) (a : Session) (joiner : List ℕ) (acted : Acted) → AnswerStep node k acted
    → join_session_at node k ≡ Some a → a.waiting ≡ 1 → a.parent ≡ Root joiner → (from to : List ℕ) (body : Body)
    → IsSent acted.sent from to body → (c : List ℕ) → about_of body from to ≡ Some c → ⊥
done_of_nobody node k a joiner acted step is last parent from to body sent c of =
    let answers : answer_sends (answer_to (join_session_at node k)) ≡ message joiner Done ∷ [] = rw (is, last, parent) refl in
    let are = answers_as (name_of node) (answer_sends (answer_to (join_session_at node k))) (message joiner Done ∷ []) acted.sent answers
    step.sent in
    nobody_is from to (said_of body) c
    (sent_each (name_of node) [] (message joiner Done ∷ []) acted.sent are (λ from to body. IsOfNobody body) (λ to version on. tt)
    (λ to object server level version on. tt)
    (λ m among. elim among [
      | inl same ↦ subst (λ (n : Message). IsOfNobody n.body) (sym same) tt
      | inr never ↦ absurd never
    ]) from to body sent) of
