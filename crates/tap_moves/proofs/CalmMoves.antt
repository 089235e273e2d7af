-- What a frame that sends nobody on, and makes no node core, keeps of seekers, of Tells and of notices.
-- Cited above: SendsNoTell
use Rattle.std.proofs.Common.{◌≡◌, ◌⊎◌, ℕ, Bool, true, false, List, [], ◌∷◌, if◌then◌else◌, ap, sym, subst, inl, inr}
use Rattle.tap_name.specs.Settings.{SettingsValue}
use Rattle.tap_name.specs.declared.slot.Slot.{Slot}
use Rattle.tap_table.specs.declared.tie.Tie.{Tie}
use Rattle.tap_session.specs.declared.parent.Parent.TheVariants.{Node, Root}
use Rattle.tap_session.specs.Session.{SessionsValue}
use Rattle.tap_session.specs.declared.sessions.Answered.{Answered}
use Rattle.tap_session.specs.declared.sessions.Answered.TheVariants.{Closed, Open, Unknown}
use Rattle.tap_session.specs.Sessions.{answer_to}
use Rattle.tap_join.specs.Hello.{words_of}
use Rattle.tap_join.specs.Seek.{sought}
use Rattle.tap_join.specs.declared.sought.Sought.TheVariants.{Forward}
use Rattle.tap_wire.specs.declared.frame.Body.{Body}
use Rattle.tap_wire.specs.declared.frame.Body.TheVariants.{Ack, Done, Forget, Heard, Link, Release, Seek}
use Rattle.tap_wire.specs.declared.frame.Frame.{Frame}
use Rattle.tap_wire.specs.declared.frame.TellFields.{TellFields}
use Rattle.tap_wire.specs.declared.kind.Kind.{Kind}
use Rattle.tap_wire.specs.declared.kind.Kind.TheVariants as kind
use Rattle.tap_wire.specs.Kind.{kind_of}
use Rattle.tap_rule.specs.Answers.{answer_sends}
use Rattle.tap_rule.specs.FrameRules.{frame_at_ceased, frame_at_core, frame_at_joining, frame_at_leaving, rule_of_frame}
use Rattle.tap_rule.specs.RuleLaws.{frame_to}
use Rattle.tap_rule.specs.Joining.{hello_words}
use Rattle.tap_rule.specs.Links.{is_new_link, release_word}
use Rattle.tap_rule.specs.Node.{NodeState, Status, join_session_at, name_of}
use Rattle.tap_rule.specs.Node.Status.{Ceased, Core, Gone, Joining, Leaving}
use Rattle.tap_rule.specs.QuietSteps.{IsQuiet, IsQuietKind}
use Rattle.tap_rule.specs.Reaction.{Message, message, pin_word}
use Rattle.tap_rule.specs.Sending.{message_frame}
use Rattle.tap_rule.specs.Sent.{AreSent, IsAmong}
use Rattle.tap_rule.specs.Strange.{is_strange}
use Rattle.tap_rule.specs.Hellos.{joining_hello}
use Rattle.tap_rule.proofs.JoinSteps.{hello_law}
use Rattle.tap_rule.proofs.LinkSteps.{forget_law, release_law}
use Rattle.tap_rule.proofs.QuietSteps.{quiet_law}
use Rattle.tap_safety.specs.Bookkeeping.{SendsDeeper, TellsAreDeeper}
use Rattle.tap_safety.specs.FrameSteps.{TakesFrame}
use Rattle.tap_safety.specs.Frames.{HelloFields, hello_body, tell_body}
use Rattle.tap_safety.specs.Notices.{AreNoNotices, IsNotice, IsNoticeKind}
use Rattle.tap_safety.specs.Soft.{AddsSoundLinks, IsQuietBody, IsSoft}
use Rattle.tap_safety.specs.Exchanges.{IsSent, numbered_from}
use Rattle.tap_safety.specs.System.{System, AmongFrames}
use Rattle.tap_safety.proofs.Peace.{frame_peace_law, notices_law, peace_kept}
use Rattle.tap_safety.proofs.SoftKept.{forget_links, frame_softs, hello_links, joining_links, not_new, only_message, release_links, sent_each}
use Rattle.tap_safety.proofs.StepLaws.{depths_law, seek_on_law, seeking_frame_law, tells_frame_law}
use Rattle.tap_safety.proofs.UnderWay.{was_under_way}
use Rattle.tap_safety.proofs.FrameKeeps.{covers_on, frame_cores}
use Rattle.tap_safety.proofs.FrameSeeking.{frame_joiners}
use Rattle.tap_safety.proofs.SeekingKept.{tells_kept}
use Rattle.tap_safety.specs.StepLaws.{KeepsSeekers}
use Rattle.tap_safety.specs.Tells.{TellsAreSound}
use Rattle.tap_safety.proofs.Said.{Said, said_of}
use Rattle.tap_safety.proofs.Said.Said.{IsAck, IsDone, IsForget, IsHeard, IsHello, IsLink, IsRelease, IsSeek, IsTell}
use Rattle.tap_moves.specs.CalmMoves.{FramePeaceful, FrameSeeks, IsCalmThere}
use Rattle.tap_moves.specs.ByRule.{taken_at}
use Rattle.tap_moves.specs.Delivered.{after_delivery}
use Rattle.tap_moves.specs.FrameLaws.{IsPlain, messages_by, words_by}
use Rattle.tap_moves.specs.InvariantLaws.{IsDelivery, IsTakenThere}
use Rattle.tap_moves.specs.SessionsLaws.{sent_at}
use Rattle.tap_moves.proofs.Exchanged.{sent_numbered}
use Rattle.tap_moves.proofs.FramesMade.{ceased_tell_is_made, forget_is_made, hello_is_made, joining_tell_is_made, meets_sent, release_is_made}
use Rattle.tap_moves.proofs.InSession.{ceased_answers, tell_in_session}
use Rattle.tap_moves.proofs.InvariantMoves.{due, hello_names_are, sender_name, told, told_name}
use Rattle.tap_moves.proofs.MovesMade.{by_rule, starts_none_as, tell_starts_none}
use Rattle.tap_moves.proofs.SeekGoesOn.{goes_on_sent, seek_goes_on}
use Rattle.tap_moves.proofs.Plain.{plain_alike, plain_is_made, rule_sends}
use Rattle.tap_moves.proofs.SessionMoves.{frame_steps, kind_turns, left_deeper}

-- ---- what is sent

-- it sends nobody on, and is no notice
abbrev IsSpareKind : Kind → Type 0
IsSpareKind kind.Heard = Unit {0}
IsSpareKind kind.Ack = Unit {0}
IsSpareKind kind.Done = Unit {0}
IsSpareKind kind.Release = Unit {0}
IsSpareKind kind.Forget = Unit {0}
IsSpareKind kind.Link = Unit {0}
IsSpareKind other = IsQuietKind other

abbrev IsSpare : Body → Type 0
IsSpare body = IsSpareKind (kind_of body)

spare_quiet : (s : System) (from to : List ℕ) {body : Body} → Said body → IsSpare body → IsQuietBody s from to body
spare_quiet s from to (IsSeek joiner) spare = absurd spare
spare_quiet s from to (IsTell tell watch) spare = absurd spare
spare_quiet s from to (IsHello hello) spare = absurd spare
spare_quiet s from to _ spare = tt

spare_no_notice : (kind : Kind) → IsSpareKind kind → IsNoticeKind kind → ⊥
spare_no_notice kind.Leave spare notice = absurd spare
spare_no_notice kind.Left spare notice = absurd spare
spare_no_notice kind.Gone spare notice = absurd spare
spare_no_notice _ spare notice = absurd notice

quiet_spare : (kind : Kind) → IsQuietKind kind → IsSpareKind kind
quiet_spare kind.Heard quiet = tt
quiet_spare kind.Ack quiet = tt
quiet_spare kind.Done quiet = tt
quiet_spare kind.Release quiet = tt
quiet_spare kind.Forget quiet = tt
quiet_spare kind.Link quiet = tt
quiet_spare other quiet = quiet

abbrev AreSpare : List Message → Type 0
AreSpare messages = (m : Message) → IsAmong m messages → IsSpare m.body

none_spare : AreSpare []
none_spare m among = absurd among

one_spare : (to : List ℕ) (body : Body) → IsSpare body → AreSpare (message to body ∷ [])
one_spare to body spare m (inl is) = subst (λ (n : Message). IsSpare n.body) (sym is) spare
one_spare to body spare m (inr never) = absurd never

if_spare : (test : Bool) (to : List ℕ) (body : Body) → IsSpare body → AreSpare (if test then message to body ∷ [] else [])
if_spare true to body spare = one_spare to body spare
if_spare false to body spare = none_spare

answer_spare : (answer : Answered) → AreSpare (answer_sends answer)
answer_spare Open = none_spare
answer_spare Unknown = none_spare
answer_spare (Closed (Root joiner)) = one_spare joiner Done tt
answer_spare (Closed (Node name session)) = one_spare name (Ack session) tt

heard_spare : (status : Status) (node : NodeState) (from : List ℕ) (session : ℕ)
    → AreSpare (messages_by (rule_of_frame status node from (Heard session)))
unfolding frame_at_joining frame_at_core frame_at_leaving frame_at_ceased
heard_spare Joining node from session = answer_spare (answer_to (join_session_at node session))
heard_spare Core node from session = answer_spare (answer_to (join_session_at node session))
heard_spare Leaving node from session = none_spare
heard_spare Gone node from session = none_spare
heard_spare Ceased node from session = answer_spare (answer_to (join_session_at node session))

ack_spare : (status : Status) (node : NodeState) (from : List ℕ) (session : ℕ)
    → AreSpare (messages_by (rule_of_frame status node from (Ack session)))
unfolding frame_at_joining frame_at_core frame_at_leaving frame_at_ceased
ack_spare Joining node from session = answer_spare (answer_to (join_session_at node session))
ack_spare Core node from session = answer_spare (answer_to (join_session_at node session))
ack_spare Leaving node from session = none_spare
ack_spare Gone node from session = none_spare
ack_spare Ceased node from session = answer_spare (answer_to (join_session_at node session))

link_spare : (status : Status) (node : NodeState) (from : List ℕ) (version : ℕ) (on : Bool)
    → AreSpare (messages_by (rule_of_frame status node from (Link version on)))
unfolding frame_at_joining frame_at_core frame_at_leaving frame_at_ceased
link_spare Joining node from version on = none_spare
link_spare Core node from version on = if_spare (is_new_link node from version on) from Release tt
link_spare Leaving node from version on = if_spare (is_new_link node from version on) from Release tt
link_spare Gone node from version on = none_spare
link_spare Ceased node from version on = if_spare on from Forget tt

ceased_spare : (status : Status) (node : NodeState) (from : List ℕ) (tell : TellFields) (watch : List Slot) → status ≡ Ceased
    → AreSpare (messages_by (rule_of_frame status node from (tell_body tell watch)))
unfolding frame_at_joining frame_at_core frame_at_leaving frame_at_ceased
ceased_spare Joining node from tell watch at = absurd (cc)
ceased_spare Core node from tell watch at = absurd (cc)
ceased_spare Leaving node from tell watch at = absurd (cc)
ceased_spare Gone node from tell watch at = absurd (cc)
ceased_spare Ceased node from tell watch at = one_spare from (Ack tell.session) tt

-- each frame that is sent
abbrev SendsSpare : List Frame → Type 0
SendsSpare sent = (from to : List ℕ) (body : Body) → IsSent sent from to body → IsSpare body

spare_sent : (x : List ℕ) (words : List Tie) (messages : List Message) (sent : List Frame) → AreSent x words messages sent
    → AreSpare messages → SendsSpare sent
spare_sent x words messages sent are spare =
    sent_each x words messages sent are (λ from to body. IsSpare body) (λ to version on. tt) (λ to object server level version on. tt) spare

-- ---- what a joining node sends at a Tell

-- an answer, or a Hello of nobody but its sender to the joiner
abbrev IsGreeting : List ℕ → Message → Type 0
IsGreeting joiner m = IsSpare m.body ⊎ ((session : ℕ) × (m ≡ message joiner (joining_hello session)))

greets_so : (messages : List Message) (from : List ℕ) (tell : TellFields) → (messages ≡ message from (Ack tell.session) ∷ [])
    ⊎ ((session : ℕ) × (messages ≡ message tell.joiner (joining_hello session) ∷ []))
    → (m : Message) → IsAmong m messages → IsGreeting tell.joiner m
greets_so messages from tell (inl ack) m among =
    inl (one_spare from (Ack tell.session) tt m (subst (λ list. IsAmong m list) ack among))
greets_so messages from tell (inr hello) m among =
    inr (hello.0, only_message m (message tell.joiner (joining_hello hello.0)) (subst (λ list. IsAmong m list) hello.1 among))

greeting_quiet : (s : System) (x joiner : List ℕ) (m : Message) → IsSoft s x → IsSoft s joiner → IsGreeting joiner m
    → IsQuietBody s x m.to m.body
greeting_quiet s x joiner m own soft (inl spare) = spare_quiet s x m.to (said_of m.body) spare
greeting_quiet s x joiner m own soft (inr hello) =
    subst (λ (n : Message). IsQuietBody s x n.to n.body) (sym hello.1) (own, soft, λ offered none. absurd none)

greeting_no_notice : (joiner : List ℕ) (m : Message) → IsGreeting joiner m → IsNotice m.body → ⊥
greeting_no_notice joiner m (inl spare) notice = spare_no_notice (kind_of m.body) spare notice
greeting_no_notice joiner m (inr hello) notice = subst (λ (n : Message). IsNotice n.body) hello.1 notice

abbrev IsNoTellKind : Kind → Type 0
IsNoTellKind kind.Tell = ⊥
IsNoTellKind other = Unit {0}

abbrev IsNoTell : Body → Type 0
IsNoTell body = IsNoTellKind (kind_of body)

spare_no_tell : (kind : Kind) → IsSpareKind kind → IsNoTellKind kind
spare_no_tell kind.Tell spare = absurd spare
spare_no_tell _ spare = tt

greeting_no_tell : (joiner : List ℕ) (m : Message) → IsGreeting joiner m → IsNoTell m.body
greeting_no_tell joiner m (inl spare) = spare_no_tell (kind_of m.body) spare
greeting_no_tell joiner m (inr hello) = subst (λ (n : Message). IsNoTell n.body) (sym hello.1) tt

-- ---- such a frame, when it is delivered

-- no Tell is sent
abbrev pub SendsNoTell : List Frame → Type 0
SendsNoTell sent = (from to : List ℕ) (fields : TellFields) (watch : List Slot) → IsSent sent from to (tell_body fields watch) → ⊥

-- it is taken by a node that stays what it is, and adds no link but to such a node as the link says; what it sends is no Tell and no
-- notice; and seekers stay unknown, and Tells sound
record TakesCalmly (p : SettingsValue) (s s' : System) (number : ℕ) (frame : Frame) (sent : List Frame) : Type 0 where
  step : TakesFrame s s' number frame
  links : AddsSoundLinks s' step.before step.after
  notices : AreNoNotices step.messages
  no_tell : SendsNoTell sent
  seekers : KeepsSeekers s s'
  tells : TellsAreSound p s → TellsAreSound p s'

-- if a Seek goes on
no_tell_tells : (p : SettingsValue) (s s' : System) (number : ℕ) (frame : Frame) (step : TakesFrame s s' number frame)
    → SendsNoTell step.sent → TellsAreSound p s → TellsAreSound p s'
no_tell_tells p s s' number frame step never =
    tells_kept p s s' (record {
      cores = frame_cores s s' number frame step;
      softs = frame_softs s s' number frame step;
      covers = λ y b level core joiner covers.
          (level, covers_on s s' frame.to step.before step.after step.at step.stays.covers y b level covers);
      joiners = frame_joiners s s' number frame step;
      surrogates = λ b joiner. step.surrogate b;
      ways = λ from to fields watch way.
          elim (was_under_way s s' number frame step.sent step.taken from to (tell_body fields watch) way) [
            | inl old ↦ inl old
            | inr sends ↦ absurd (never from to fields watch sends)
          ];
    })

-- no Tell is a Seek
seek_no_tell : (x to joiner : List ℕ) (sent : List Frame) → sent ≡ message_frame x (message to (Seek joiner)) ∷ [] → SendsNoTell sent
seek_no_tell x to joiner sent same w t fields watch among = by_one (subst (IsAmong told) same among)
  where
    told : Frame
    told = record { from = w; to = t; body = tell_body fields watch }

    by_one : IsAmong told (message_frame x (message to (Seek joiner)) ∷ []) → ⊥
    by_one (inl is) = let wrong : tell_body fields watch ≡ Seek joiner = ap (λ (f : Frame). f.body) is in cc
    by_one (inr none) = none

module _ (p : SettingsValue) (s : System) (number : ℕ) (node : NodeState) (from : List ℕ) where
  abbrev after : System
  after = after_delivery p s number

  -- what the rule sends is spare, if its messages are
  rule_spare : (body : Body) → is_strange node (frame_to node from body) ≡ false
      → AreSpare (messages_by (rule_of_frame node.status node from body)) → SendsSpare (taken_at node from body).sent
  rule_spare body known spare =
      spare_sent (name_of node) (words_by (rule_of_frame node.status node from body))
      (messages_by (rule_of_frame node.status node from body)) (taken_at node from body).sent (rule_sends node from body known) spare

  -- a step of such links, which sends what is spare
  spare_calm : (body : Body) → (step : TakesFrame s after number (frame_to node from body)) → AddsSoundLinks after step.before step.after
      → AreSpare step.messages → SendsSpare (taken_at node from body).sent → ((x : List ℕ) → body ≡ Seek x → ⊥)
      → TakesCalmly p s after number (frame_to node from body) (taken_at node from body).sent
  spare_calm body step links spare sends no_seek =
      let quiet = λ (m : Message) (among : IsAmong m step.messages). spare_quiet after (name_of node) m.to (said_of m.body) (spare m among) in
      record {
        step = step;
        links = links;
        notices = λ m among notice. spare_no_notice (kind_of m.body) (spare m among) notice;
        no_tell = λ w t fields watch sent. sends w t (tell_body fields watch) sent;
        seekers = seeking_frame_law s after number (frame_to node from body) step quiet no_seek links;
        tells = tells_frame_law p s after number (frame_to node from body) step quiet;
      }

  seek_calm : (joiner next : List ℕ) → IsDelivery p s number node from (Seek joiner) → node.status ≡ Core
      → sought node.ties.table joiner ≡ Forward next
      → TakesCalmly p s after number (frame_to node from (Seek joiner)) (taken_at node from (Seek joiner)).sent
  seek_calm joiner next is at found =
      let goes = seek_goes_on p s number node from joiner next is at found in
      let step = goes.0.step in
      record {
        step = step;
        links = not_new after step.before step.after goes.0.links;
        notices = λ m among notice.
            let same = only_message m (message next (Seek joiner)) (subst (λ list. IsAmong m list) goes.1 among) in
            subst (λ (n : Message). IsNotice n.body) same notice;
        no_tell =
            seek_no_tell (name_of node) next joiner (taken_at node from (Seek joiner)).sent
            (goes_on_sent p s number node from joiner next is at found);
        seekers = seek_on_law s after number from (name_of node) joiner next goes.0 is.invariant.numbered;
        tells =
            no_tell_tells p s after number (frame_to node from (Seek joiner)) step
            (seek_no_tell (name_of node) next joiner step.sent goes.0.sent);
      }

  plain_calm : (body : Body) → IsDelivery p s number node from body → IsPlain node body
      → AreSpare (messages_by (rule_of_frame node.status node from body)) → ((x : List ℕ) → body ≡ Seek x → ⊥)
      → TakesCalmly p s after number (frame_to node from body) (taken_at node from body).sent
  plain_calm body is plain spare no_seek =
      let here = due p s number node from body is in
      let none = starts_none_as p s number node from body here (plain_alike node from body is.known plain).opened in
      let made = plain_is_made s after number node from body (by_rule p s number node from body here) none plain in
      spare_calm body made.0.step (not_new after made.0.step.before made.0.step.after made.0.links) (subst AreSpare (sym made.1) spare)
      (rule_spare body is.known spare) no_seek

  ceased_calm : (tell : TellFields) (watch : List Slot) → IsDelivery p s number node from (tell_body tell watch) → node.status ≡ Ceased
      → TakesCalmly p s after number (frame_to node from (tell_body tell watch)) (taken_at node from (tell_body tell watch)).sent
  ceased_calm tell watch is at =
      let body = tell_body tell watch in
      let here = due p s number node from body is in
      let none = tell_starts_none p s number node from tell watch here (inr (ceased_answers node from tell watch at is.known)) in
      let made = ceased_tell_is_made s after number node from tell watch (by_rule p s number node from body here) none at in
      spare_calm body made.step (not_new after made.step.before made.step.after made.links)
      (subst AreSpare (sym made.answers) (one_spare from (Ack tell.session) tt))
      (rule_spare body is.known (ceased_spare node.status node from tell watch at)) (λ x is. cc)

  -- a joining node greets the joiner, or answers; both are joiners
  joining_calm : (tell : TellFields) (watch : List Slot) → IsDelivery p s number node from (tell_body tell watch)
      → node.status ≡ Joining
      → TakesCalmly p s after number (frame_to node from (tell_body tell watch)) (taken_at node from (tell_body tell watch)).sent
  joining_calm tell watch is at =
      let body = tell_body tell watch in
      let here = due p s number node from body is in
      let none = tell_starts_none p s number node from tell watch here (tell_in_session node from tell watch (inr at) is.known) in
      let made = joining_tell_is_made s after number node from tell watch (by_rule p s number node from body here) none at
      (told_name p s number node from tell watch is) in
      let sound = told p s number node from tell watch is in
      let soft = frame_softs s after number (frame_to node from body) made.step in
      let greets = greets_so made.step.messages from tell made.answers in
      let sends = meets_sent node from tell watch is.known at in
      let quiet = λ (m : Message) (among : IsAmong m made.step.messages). greeting_quiet after (name_of node) tell.joiner m
      (soft (name_of node) sound.soft) (soft tell.joiner (inl sound.joiner)) (greets m among) in
      let links = joining_links s after number from (name_of node) tell watch made sound.joiner in
      record {
        step = made.step;
        links = links;
        notices = λ m among notice. greeting_no_notice tell.joiner m (greets m among) notice;
        no_tell = λ w t fields watch among.
            sent_each (name_of node) (words_of (pin_word node tell.joiner)) sends.messages (taken_at node from body).sent sends.are
            (λ from to body. IsNoTell body) (λ to version on. tt) (λ to object server level version on. tt)
            (λ m among. greeting_no_tell tell.joiner m (greets_so sends.messages from tell sends.answers m among)) w t
            (tell_body fields watch) among;
        seekers = seeking_frame_law s after number (frame_to node from body) made.step quiet (λ x is. cc) links;
        tells = tells_frame_law p s after number (frame_to node from body) made.step quiet;
      }

  hello_calm : (hello : HelloFields) → IsDelivery p s number node from (hello_body hello) → node.status ≡ Joining
      → TakesCalmly p s after number (frame_to node from (hello_body hello)) (taken_at node from (hello_body hello)).sent
  hello_calm hello is at =
      let body = hello_body hello in
      let here = due p s number node from body is in
      let step = hello_law node from hello at is.known in
      let none = starts_none_as p s number node from body here (ap (λ (o : SessionsValue). o.opened) step.sessions) in
      let made = hello_is_made s after number node from hello (by_rule p s number node from body here) none at
      (sender_name p s number node from body is) (hello_names_are p s number node from hello is) in
      spare_calm body made.step (hello_links s after number from (name_of node) hello made is.invariant.soft)
      (subst AreSpare (sym made.answers) (one_spare from (Heard hello.session) tt))
      (spare_sent (name_of node) (hello_words node from hello.is_core hello.links) (message from (Heard hello.session) ∷ [])
      (taken_at node from body).sent step.sent (one_spare from (Heard hello.session) tt)) (λ x is. cc)

  release_calm : IsDelivery p s number node from Release → (node.status ≡ Joining) ⊎ (node.status ≡ Core)
      → TakesCalmly p s after number (frame_to node from Release) (taken_at node from Release).sent
  release_calm is at =
      let here = due p s number node from Release is in
      let name = sender_name p s number node from Release is in
      let step = release_law node from here.is_node.ties name at is.known in
      let none = starts_none_as p s number node from Release here (ap (λ (o : SessionsValue). o.opened) step.sessions) in
      let made = release_is_made s after number node from (by_rule p s number node from Release here) none at name in
      spare_calm Release made.step (release_links s after number from (name_of node) made is.invariant.soft)
      (subst AreSpare (sym made.silent) none_spare)
      (spare_sent (name_of node) (words_of (release_word node from)) [] (taken_at node from Release).sent step.sent none_spare)
      (λ x is. cc)

  forget_calm : IsDelivery p s number node from Forget → (node.status ≡ Joining) ⊎ (node.status ≡ Core)
      → TakesCalmly p s after number (frame_to node from Forget) (taken_at node from Forget).sent
  forget_calm is at =
      let here = due p s number node from Forget is in
      let name = sender_name p s number node from Forget is in
      let step = forget_law node from here.is_node.ties name at is.known in
      let none = starts_none_as p s number node from Forget here (ap (λ (o : SessionsValue). o.opened) step.sessions) in
      let made = forget_is_made s after number node from (by_rule p s number node from Forget here) none at name in
      spare_calm Forget made.step (forget_links s after number from (name_of node) made) (subst AreSpare (sym made.silent) none_spare)
      (spare_sent (name_of node) [] [] (taken_at node from Forget).sent step.sent none_spare) (λ x is. cc)

  quiet_calm : (body : Body) → IsDelivery p s number node from body → IsQuiet body → IsPlain node body
      → ((x : List ℕ) → body ≡ Seek x → ⊥) → TakesCalmly p s after number (frame_to node from body) (taken_at node from body).sent
  quiet_calm body is quiet plain no_seek =
      let step = quiet_law node (frame_to node from body) quiet in
      let sent = rule_sends node from body is.known in
      plain_calm body is plain
      (λ m among. quiet_spare (kind_of m.body) (step.sent (message_frame (name_of node) m) (sent.named m among))) no_seek

frame_calm : (p : SettingsValue) (s : System) (number : ℕ) (node : NodeState) (from : List ℕ) (body : Body)
    → IsDelivery p s number node from body → IsCalmThere node body
    → TakesCalmly p s (after_delivery p s number) number (frame_to node from body) (taken_at node from body).sent
frame_calm p s number node from body is there = by_said body (said_of body) is there
  where
    by_said : (body : Body) → Said body → IsDelivery p s number node from body → IsCalmThere node body
        → TakesCalmly p s (after_delivery p s number) number (frame_to node from body) (taken_at node from body).sent
    by_said _ (IsTell tell watch) is there =
        elim there [
          | inl joins ↦ joining_calm p s number node from tell watch is joins
          | inr ceased ↦ ceased_calm p s number node from tell watch is ceased
        ]
    by_said _ (IsHello hello) is there = hello_calm p s number node from hello is there
    by_said _ IsRelease is there = release_calm p s number node from is there
    by_said _ IsForget is there = forget_calm p s number node from is there
    by_said _ (IsHeard session) is there =
        plain_calm p s number node from (Heard session) is tt (heard_spare node.status node from session) (λ x same. cc)
    by_said _ (IsAck session) is there =
        plain_calm p s number node from (Ack session) is tt (ack_spare node.status node from session) (λ x same. cc)
    by_said _ (IsLink version on) is there =
        plain_calm p s number node from (Link version on) is tt (link_spare node.status node from version on) (λ x same. cc)
    by_said _ (IsSeek joiner) is there = seek_calm p s number node from joiner there.1.0 is there.0 there.1.1
    by_said body _ is there = quiet_calm p s number node from body is there there (λ x same. cc)

pub frame_seeks : FrameSeeks
frame_seeks p s number node from body is there =
    let s' = after_delivery p s number in
    let frame = frame_to node from body in
    let calm = frame_calm p s number node from body is there in
    record {
      seeking = calm.seekers.0 is.invariant.seeking;
      seekers = calm.seekers.1 is.invariant.seekers;
      tells = calm.tells is.invariant.tells;
    }

pub frame_peaceful : FramePeaceful
frame_peaceful p s number node from body is there none =
    let s' = after_delivery p s number in
    let frame = frame_to node from body in
    let calm = frame_calm p s number node from body is there in
    let still = peace_kept p s number none in
    let law = frame_peace_law s s' number frame calm.step calm.notices calm.links none still is.invariant.departure in
    record { none = still; departure = law.1; notices = notices_law s s' law.0 is.invariant.notices }

-- ---- depths

-- no Tell is sent
pub none_deeper : (s s' : System) (sent : List Frame) → SendsNoTell sent → SendsDeeper s' (numbered_from s.next sent)
none_deeper s s' sent never = record {
  depth = λ from to fields watch m session among is. absurd (none from to fields watch m among);
  level = λ from to fields watch m among. absurd (none from to fields watch m among);
}
  where
    none : (from to : List ℕ) (fields : TellFields) (watch : List Slot) (m : ℕ)
        → AmongFrames m (record { from = from; to = to; body = tell_body fields watch }) (numbered_from s.next sent) → ⊥
    none from to fields watch m among =
        never from to fields watch
        (sent_numbered m (record { from = from; to = to; body = tell_body fields watch }) s.next sent among)

-- a rule takes such a frame, or it is of no session
calm_taken : (node : NodeState) {body : Body} → Said body → IsCalmThere node body → IsTakenThere node body
calm_taken node (IsTell tell watch) there = inr there
calm_taken node (IsHello hello) there = there
calm_taken node (IsSeek joiner) there = there.0
calm_taken node IsDone there = tt
calm_taken node IsRelease there = tt
calm_taken node IsForget there = tt
calm_taken node _ there = there

pub calm_deeper : (p : SettingsValue) (s : System) (number : ℕ) (node : NodeState) (from : List ℕ) (body : Body)
    → IsDelivery p s number node from body → IsCalmThere node body → TellsAreDeeper (after_delivery p s number)
calm_deeper p s number node from body is there =
    let s' = after_delivery p s number in
    let frame = frame_to node from body in
    let acted = taken_at node from body in
    let sent = sent_at s node from body in
    let calm = frame_calm p s number node from body is there in
    let step = frame_steps p s number node from body is (calm_taken node (said_of body) there) in
    elim (kind_turns s s' number frame sent step.kind step.is is.invariant.exact) [
      | inl turns ↦
          depths_law s s' sent turns is.invariant.exact (none_deeper s s' acted.sent calm.no_tell) is.invariant.deeper
      | inr leaves ↦ left_deeper s s' leaves is.invariant.deeper
    ]
