-- What a node sends in sessions at a Tell, and at a Seek that it takes as the surrogate.
-- Cited above: only_one, seek_opens, tell_in_session
use Rattle.std.proofs.Common.{◌≡◌, ◌==◌, ℕ, ◌+◌, ◌≤◌, Bool, cond, true, false, List, [], ◌∷◌, ◌++◌, length, map, Option, None, Some, arith, ap, refl, sym, ◌∙◌, inl, inr}
use Rattle.std.proofs.lemmas.Bool.{eqb-false, ne_eqb}
use Rattle.std.proofs.lemmas.List.{length-append, length-map}
use Rattle.tap_name.specs.declared.slot.Offered.{Offered}
use Rattle.tap_name.specs.declared.slot.Slot.{Slot}
use Rattle.tap_session.specs.declared.parent.Parent.{Parent}
use Rattle.tap_session.specs.declared.parent.Parent.TheVariants.{Node, Root}
use Rattle.tap_table.specs.declared.tie.Tie.{Tie}
use Rattle.tap_wire.specs.declared.frame.Frame.{Frame}
use Rattle.tap_wire.specs.declared.frame.Body.TheVariants.{Seek, Ack}
use Rattle.tap_wire.specs.declared.frame.TellFields.{TellFields}
use Rattle.tap_name.specs.Names.{has_name}
use Rattle.tap_join.specs.Hello.{words_of}
use Rattle.tap_multicast.specs.declared.covers.Covered.{Covered}
use Rattle.tap_multicast.specs.declared.covers.Covered.TheVariants.{Already, Now}
use Rattle.tap_multicast.specs.declared.target.Target.{Target}
use Rattle.tap_rule.specs.Answers.{answer_for, with_session}
use Rattle.tap_rule.specs.Covering.{Request, answers_awaited, covers_as, first_request, greeting, pins_and_covers, request_of, takes_seek, tell_for, takes_tell, with_level}
use Rattle.tap_rule.specs.Ceasing.{takes_tell_ceased}
use Rattle.tap_rule.specs.FrameRules.{frame_at_ceased, frame_at_core, frame_at_joining}
use Rattle.tap_rule.specs.Joining.{takes_tell_joining, welcomes}
use Rattle.tap_rule.specs.Event.{Acted}
use Rattle.tap_rule.specs.JoinSteps.{found_for}
use Rattle.tap_rule.specs.RuleLaws.{IsCarriedOut, frame_to, tell_of}
use Rattle.tap_rule.specs.Node.{NodeState, name_of}
use Rattle.tap_rule.specs.Reaction.{Message, Reaction, message, pin_word, sends, with_pin, with_words}
use Rattle.tap_rule.specs.Sending.{link_frame, lay_frame, message_frame}
use Rattle.tap_rule.specs.Sent.{AreSent, IsAmong}
use Rattle.tap_rule.specs.Hellos.{core_hello, joining_hello}
use Rattle.tap_rule.proofs.Among.{among-either, among-map_from}
use Rattle.tap_rule.proofs.CarriedOut.{frame_law}
use Rattle.tap_rule.proofs.OneName.{parent_told}
use Rattle.tap_safety.specs.Sessions.{Belongs}
use Rattle.tap_moves.specs.ByRule.{taken_at}
use Rattle.tap_moves.specs.InSession.{AnswersAtOnce, OpensNext, OpensOrAnswers}
use Rattle.tap_moves.specs.StepsMade.{CeasedAnswers, SeekOpens, TellInSession}
use Rattle.tap_moves.proofs.Counts.{AreIn, ways_by_rule}
use Rattle.tap_moves.proofs.SeekMade.{uncovered}

-- a place names one node and one number
pub one_place : (x y : List ℕ) (k l : ℕ) → ◌≡◌ {A = Option (List ℕ × ℕ)} (Some (x, k)) (Some (y, l)) → (x ≡ y) × (k ≡ l)
one_place x y k l same = (ap (name_in x) same, ap (number_in k) same)
  where
    name_in : List ℕ → Option (List ℕ × ℕ) → List ℕ
    name_in other None = other
    name_in other (Some place) = place.0

    number_in : ℕ → Option (List ℕ × ℕ) → ℕ
    number_in other None = other
    number_in other (Some place) = place.1

-- a message, sent by this node, belongs to this session
abbrev MessageIn : List ℕ → Message → List ℕ → ℕ → Type 0
MessageIn own m y k = Belongs (message_frame own m) y k

-- what is sent in a session is one of the messages
pub sent_in : (own : List ℕ) (words : List Tie) (messages : List Message) (sent : List Frame) → AreSent own words messages sent
    → (f : Frame) (y : List ℕ) (k : ℕ) → IsAmong f sent → Belongs f y k → (m : Message) × IsAmong m messages × MessageIn own m y k
sent_in own words messages sent are f y k among belongs =
    elim (are.each f among) [
      | inl link ↦ let none : Belongs (link_frame own link.word) y k = rw link.is at belongs in absurd (cc)
      | inr other ↦ elim other [
        | inl named ↦ (named.message, named.among, rw named.is at belongs)
        | inr lay ↦ let none : Belongs (lay_frame own lay.lay) y k = rw lay.is at belongs in absurd (cc)
      ]
    ]

-- the answer for a parent belongs to the parent
pub answer_in : (own : List ℕ) (parent : Parent) (y : List ℕ) (k : ℕ) → MessageIn own (answer_for parent) y k → parent ≡ Node y k
answer_in own (Root joiner) y k belongs = absurd (cc)
answer_in own (Node name session) y k belongs =
    let same = one_place name y session k belongs in ap (λ n. Node n session) same.0 ∙ ap (λ l. Node y l) same.1

-- and is sent in it
answer_within : (own : List ℕ) (parent : Parent) (y : List ℕ) (k : ℕ) → parent ≡ Node y k → AreIn own (answer_for parent ∷ []) y k
answer_within own parent y k is m (inl same) = rw (same, is) refl
answer_within own parent y k is m (inr none) = absurd none

-- a Tell for a target and a greeting belong to the session that is opened
told_in_next : (own : List ℕ) (request : Request) (session : ℕ) (left : List Slot) (target : Target) (y : List ℕ) (k : ℕ)
    → MessageIn own (tell_for request session left target) y k → (y ≡ own) × (k ≡ session)
told_in_next own request session left target y k belongs =
    let same = one_place own y session k belongs in (sym same.0, sym same.1)

greeted_in_next : (own : List ℕ) (request : Request) (session : ℕ) (first : Bool) (offer : List Offered) (m : Message) (y : List ℕ) (k : ℕ)
    → IsAmong m (greeting request session first offer) → MessageIn own m y k → (y ≡ own) × (k ≡ session)
greeted_in_next own request session true offer m y k (inl is) belongs =
    let hello : MessageIn own (message request.joiner (core_hello session offer)) y k = rw is at belongs in
    let same = one_place own y session k hello in
    (sym same.0, sym same.1)
greeted_in_next own request session true offer m y k (inr none) belongs = absurd none
greeted_in_next own request session false offer m y k none belongs = absurd none

spread_in_next : (own : List ℕ) (request : Request) (session : ℕ) (first : Bool) (offer : List Offered) (left : List Slot)
    (targets : List Target) (m : Message) (y : List ℕ) (k : ℕ)
    → IsAmong m (greeting request session first offer ++ map (tell_for request session left) targets) → MessageIn own m y k
    → (y ≡ own) × (k ≡ session)
spread_in_next own request session first offer left targets m y k among belongs =
    elim (among-either m (greeting request session first offer) (map (tell_for request session left) targets) among) [
      | inl hello ↦ greeted_in_next own request session first offer m y k hello belongs
      | inr tell ↦
          let found = among-map_from (tell_for request session left) m targets tell in
          told_in_next own request session left found.0 y k (rw found.2 at belongs)
    ]

-- and each is sent in it
greeted_within : (own : List ℕ) (request : Request) (session : ℕ) (first : Bool) (offer : List Offered)
    → AreIn own (greeting request session first offer) own session
greeted_within own request session true offer m (inl is) = rw is refl
greeted_within own request session true offer m (inr none) = absurd none
greeted_within own request session false offer m none = absurd none

spread_within : (own : List ℕ) (request : Request) (session : ℕ) (first : Bool) (offer : List Offered) (left : List Slot)
    (targets : List Target)
    → AreIn own (greeting request session first offer ++ map (tell_for request session left) targets) own session
spread_within own request session first offer left targets m among =
    elim (among-either m (greeting request session first offer) (map (tell_for request session left) targets) among) [
      | inl hello ↦ greeted_within own request session first offer m hello
      | inr tell ↦ let found = among-map_from (tell_for request session left) m targets tell in rw found.2 refl
    ]

-- as many as are awaited
greeting_counted : (request : Request) (session : ℕ) (first : Bool) (offer : List Offered) (targets : ℕ)
    → length (greeting request session first offer) + targets ≡ answers_awaited first targets
greeting_counted request session true offer targets = omega arith
greeting_counted request session false offer targets = omega arith

spread_counted : (request : Request) (session : ℕ) (first : Bool) (offer : List Offered) (left : List Slot) (targets : List Target)
    → length (greeting request session first offer ++ map (tell_for request session left) targets)
    ≡ answers_awaited first (length targets)
spread_counted request session first offer left targets =
    let whole = length-append (greeting request session first offer) (map (tell_for request session left) targets) in
    let mapped = length-map targets (tell_for request session left) in
    let all = greeting_counted request session first offer (length targets) in
    omega (arith, whole, mapped, all)

pub only_one : (m one : Message) → IsAmong m (one ∷ []) → m ≡ one
only_one m one (inl is) = is
only_one m one (inr none) = absurd none

at_least_one : (n : ℕ) → (n ≡ 0 → ⊥) → 1 ≤ n
at_least_one n apart = omega arith

module _ (node : NodeState) (request : Request) (words : List Tie) (acted : Acted) where
  -- who sends the parent its answer alone
  answers_once : (state : NodeState) → state.sessions ≡ node.sessions
      → IsCarriedOut node (with_words words (sends state (answer_for request.parent ∷ []))) acted → AnswersAtOnce node request.parent acted
  answers_once state same carried =
      let sessions = carried.sessions ∙ same in
      let are = carried.sent in
      record {
        sessions = sessions;
        told = parent_told node request.parent acted.sent (are.named (answer_for request.parent) (inl refl));
        sent = λ f y k among belongs.
            let found = sent_in (name_of node) words (answer_for request.parent ∷ []) acted.sent are f y k among belongs in
            let same = only_one found.0 (answer_for request.parent) found.1 in
            answer_in (name_of node) request.parent y k (rw same at found.2);
        one = λ y k n is.
            ways_by_rule node (with_words words (sends state (answer_for request.parent ∷ []))) acted y k n carried
            (answer_within (name_of node) request.parent y k is);
      }

  -- who waits for some opens its next session
  module _ (first : Bool) (offer : List Offered) (targets : List Target) (left : List Slot) where
    abbrev messages : List Message
    messages =
        greeting request (node.sessions.opened + 1) first offer ++ map (tell_for request (node.sessions.opened + 1) left) targets

    abbrev opening : Reaction
    opening =
        sends (with_session (with_level (with_pin node request.joiner) request) request.parent request.depth
        (answers_awaited first (length targets))) messages

    spread_opens : (answers_awaited first (length targets) == 0) ≡ false → IsCarriedOut node (with_words words opening) acted
        → OpensNext node request.parent request.depth acted
    spread_opens some carried =
        let apart = eqb-false (answers_awaited first (length targets)) 0 some in
        record {
          waiting = answers_awaited first (length targets);
          some = at_least_one (answers_awaited first (length targets)) apart;
          sessions = carried.sessions;
          sent = λ f y k among belongs.
              let found = sent_in (name_of node) words messages acted.sent carried.sent f y k among belongs in
              spread_in_next (name_of node) request (node.sessions.opened + 1) first offer left targets found.0 y k found.1 found.2;
          counted = λ n.
              ways_by_rule node (with_words words opening) acted (name_of node) (node.sessions.opened + 1) n carried
              (spread_within (name_of node) request (node.sessions.opened + 1) first offer left targets)
              ∙ spread_counted request (node.sessions.opened + 1) first offer left targets;
        }

    spread_as : (none : Bool) → (answers_awaited first (length targets) == 0) ≡ none
        → IsCarriedOut node (with_words words (cond none
        (sends (with_level (with_pin node request.joiner) request) (answer_for request.parent ∷ [])) opening)) acted
        → OpensOrAnswers node request.parent request.depth acted
    spread_as true is carried = inr (answers_once (with_level (with_pin node request.joiner) request) refl carried)
    spread_as false is carried = inl (spread_opens is carried)

  covered_as : (found : Covered) → IsCarriedOut node (with_words words (covers_as (with_pin node request.joiner) request found)) acted
      → OpensOrAnswers node request.parent request.depth acted
  covered_as Already carried = inr (answers_once (with_pin node request.joiner) refl carried)
  covered_as (Now first offer targets left) carried =
      spread_as first offer targets left (answers_awaited first (length targets) == 0) refl carried

  -- the first cover of a joiner waits for the joiner at least
  first_as : (offer : List Offered) (targets : List Target) (left : List Slot)
      → IsCarriedOut node (with_words words (covers_as (with_pin node request.joiner) request (Now true offer targets left))) acted
      → OpensNext node request.parent request.depth acted
  first_as offer targets left carried =
      let some : (answers_awaited true (length targets) == 0) ≡ false = ne_eqb (length targets + 1) 0 (λ is. absurd (omega (arith, is))) in
      spread_opens true offer targets left some (rw some at carried)

-- the words for a joiner that is pinned
abbrev words_for : NodeState → List ℕ → List Tie
words_for node joiner = words_of (pin_word node joiner)

covers_in_session : (node : NodeState) (request : Request) (acted : Acted) → IsCarriedOut node (pins_and_covers node request) acted
    → OpensOrAnswers node request.parent request.depth acted
covers_in_session node request acted carried =
    covered_as node request (words_for node request.joiner) acted (found_for node request) carried

-- a Tell at a joining node
meets_in_session : (node : NodeState) (from : List ℕ) (tell : TellFields) (acted : Acted) (before : Bool)
    → IsCarriedOut node (with_words (words_for node tell.joiner) (cond before
    (sends (with_pin node tell.joiner) (message from (Ack tell.session) ∷ [])) (welcomes (with_pin node tell.joiner) from tell))) acted
    → OpensOrAnswers node (Node from tell.session) tell.depth acted
meets_in_session node from tell acted true carried = inr (record {
  sessions = carried.sessions;
  told = carried.sent.named (message from (Ack tell.session)) (inl refl);
  sent = λ f y k among belongs.
      let found = sent_in (name_of node) (words_for node tell.joiner) (message from (Ack tell.session) ∷ []) acted.sent carried.sent
      f y k among belongs in
      let same = only_one found.0 (message from (Ack tell.session)) found.1 in
      answer_in (name_of node) (Node from tell.session) y k (rw same at found.2);
  one = λ y k n is.
      ways_by_rule node
      (with_words (words_for node tell.joiner) (sends (with_pin node tell.joiner) (message from (Ack tell.session) ∷ []))) acted y k n
      carried (answer_within (name_of node) (Node from tell.session) y k is);
})
meets_in_session node from tell acted false carried =
    let hello = message tell.joiner (joining_hello (node.sessions.opened + 1)) in
    inl (record {
      waiting = 1;
      some = omega arith;
      sessions = carried.sessions;
      sent = λ f y k among belongs.
          let found = sent_in (name_of node) (words_for node tell.joiner) (hello ∷ []) acted.sent carried.sent f y k among belongs in
          let is : MessageIn (name_of node) hello y k = rw (only_one found.0 hello found.1) at found.2 in
          let same = one_place (name_of node) y (node.sessions.opened + 1) k is in
          (sym same.0, sym same.1);
      counted = λ n.
          ways_by_rule node (with_words (words_for node tell.joiner) (welcomes (with_pin node tell.joiner) from tell)) acted (name_of node)
          (node.sessions.opened + 1) n carried (λ m among. rw (only_one m hello among) refl);
    })

pub tell_in_session : TellInSession
unfolding frame_at_core frame_at_joining
tell_in_session node from tell watch (inl at) known =
    covers_in_session node (request_of from tell watch) _
    (frame_law node (frame_to node from (tell_of tell watch)) (takes_tell node from tell watch) known (rw at refl))
tell_in_session node from tell watch (inr at) known =
    meets_in_session node from tell _ (has_name node.greeted tell.joiner)
    (frame_law node (frame_to node from (tell_of tell watch)) (takes_tell_joining node from tell) known (rw at refl))

pub seek_opens : SeekOpens
unfolding frame_at_core
seek_opens node from joiner prefix at known is =
    let sought_on = frame_law node (frame_to node from (Seek joiner)) (takes_seek node joiner) known (rw at refl) in
    let carried : IsCarriedOut node (pins_and_covers node (first_request node joiner prefix)) (taken_at node from (Seek joiner)) =
    rw is at sought_on in
    let none = uncovered node from joiner known in
    first_as node (first_request node joiner prefix) (words_for node joiner) _ _ _ _ (rw none at carried)

pub ceased_answers : CeasedAnswers
unfolding frame_at_ceased
ceased_answers node from tell watch at known =
    let carried = frame_law node (frame_to node from (tell_of tell watch)) (takes_tell_ceased node from tell.session) known (rw at refl) in
    record {
      sessions = carried.sessions;
      told = carried.sent.named (message from (Ack tell.session)) (inl refl);
      sent = λ f y k among belongs.
          let found = sent_in (name_of node) [] (message from (Ack tell.session) ∷ []) _ carried.sent f y k among belongs in
          let same = only_one found.0 (message from (Ack tell.session)) found.1 in
          answer_in (name_of node) (Node from tell.session) y k (rw same at found.2);
      one = λ y k n is.
          ways_by_rule node (takes_tell_ceased node from tell.session) _ y k n carried
          (answer_within (name_of node) (Node from tell.session) y k is);
    }
