-- Settled links are to core nodes, and pins to soft ones, once a frame is delivered.
use Rattle.std.proofs.Common.{◌≡◌, ◌⊎◌, ℕ, Bool, true, false, List, [], ◌∷◌, if◌then◌else◌, ap, refl, sym, subst, ◌∙◌, inl, inr}
use Rattle.tap_name.specs.Name.{IsName}
use Rattle.tap_name.specs.Settings.{SettingsValue}
use Rattle.tap_name.specs.declared.slot.Slot.{Slot}
use Rattle.tap_session.specs.Session.{SessionsValue}
use Rattle.tap_session.specs.declared.parent.Parent.TheVariants.{Node, Root}
use Rattle.tap_session.specs.declared.sessions.Answered.{Answered}
use Rattle.tap_session.specs.declared.sessions.Answered.TheVariants.{Closed, Open, Unknown}
use Rattle.tap_session.specs.Sessions.{answer_to}
use Rattle.tap_join.specs.Seek.{sought}
use Rattle.tap_join.specs.declared.sought.Sought.TheVariants.{Forward}
use Rattle.tap_wire.specs.declared.frame.Body.{Body}
use Rattle.tap_wire.specs.declared.frame.Body.TheVariants.{Ack, Done, Forget, Heard, Link, Release, Seek}
use Rattle.tap_wire.specs.declared.frame.TellFields.{TellFields}
use Rattle.tap_wire.specs.declared.kind.Kind.{Kind}
use Rattle.tap_wire.specs.declared.kind.Kind.TheVariants as kind
use Rattle.tap_wire.specs.Kind.{kind_of}
use Rattle.tap_rule.specs.Answers.{answer_sends}
use Rattle.tap_rule.specs.FrameRules.{frame_at_ceased, frame_at_core, frame_at_joining, frame_at_leaving, rule_of_frame}
use Rattle.tap_rule.specs.RuleLaws.{frame_to}
use Rattle.tap_rule.specs.Links.{is_new_link}
use Rattle.tap_rule.specs.Node.{NodeState, Status, join_session_at, name_of, settings_of}
use Rattle.tap_rule.specs.Node.Status.{Ceased, Core, Gone, Joining, Leaving}
use Rattle.tap_rule.specs.QuietSteps.{IsQuiet, IsQuietKind}
use Rattle.tap_rule.specs.Reaction.{Message, message}
use Rattle.tap_rule.specs.Sending.{message_frame}
use Rattle.tap_rule.specs.Sent.{IsAmong}
use Rattle.tap_rule.proofs.JoinSteps.{hello_law}
use Rattle.tap_rule.proofs.LinkSteps.{forget_law, release_law}
use Rattle.tap_rule.proofs.QuietSteps.{quiet_law}
use Rattle.tap_safety.specs.Frames.{HelloFields, hello_body, tell_body}
use Rattle.tap_safety.specs.Soft.{AreSound, IsSoundBody, NamesSoft}
use Rattle.tap_safety.specs.System.{System, IsCoreNode, IsJoiner}
use Rattle.tap_safety.proofs.StepLaws.{soft_ceased_law, soft_forget_law, soft_hello_law, soft_joining_law, soft_plain_law, soft_release_law}
use Rattle.tap_safety.proofs.Said.{Said, said_of}
use Rattle.tap_safety.proofs.Said.Said.{IsHello, IsLeave, IsRelease}
use Rattle.tap_moves.specs.ByRule.{taken_at}
use Rattle.tap_moves.specs.Delivered.{IsArriving, after_delivery}
use Rattle.tap_moves.specs.FrameLaws.{AreOfferedNames, IsPlain, messages_by}
use Rattle.tap_moves.proofs.FramesMade.{ceased_tell_is_made, forget_is_made, hello_is_made, joining_tell_is_made, release_is_made}
use Rattle.tap_moves.proofs.InSession.{ceased_answers, tell_in_session}
use Rattle.tap_moves.proofs.MovesMade.{by_rule, starts_none_as, tell_starts_none}
use Rattle.tap_moves.proofs.Plain.{plain_alike, plain_is_made, rule_sends}

-- ---- what a plain frame makes a node send

-- nothing is said to be core by it
abbrev IsMildKind : Kind → Type 0
IsMildKind kind.Hello = ⊥
IsMildKind kind.Release = ⊥
IsMildKind kind.Leave = ⊥
IsMildKind other = Unit {0}

abbrev IsMild : Body → Type 0
IsMild body = IsMildKind (kind_of body)

mild_sound : (s : System) (from to : List ℕ) {body : Body} → Said body → IsMild body → IsSoundBody s from to body
mild_sound s from to (IsHello hello) mild = absurd mild
mild_sound s from to IsRelease mild = absurd mild
mild_sound s from to (IsLeave replacement) mild = absurd mild
mild_sound s from to _ mild = tt

abbrev AreMild : List Message → Type 0
AreMild messages = (m : Message) → IsAmong m messages → IsMild m.body

one_mild : (to : List ℕ) (body : Body) → IsMild body → AreMild (message to body ∷ [])
one_mild to body mild m (inl is) = subst (λ (n : Message). IsMild n.body) (sym is) mild
one_mild to body mild m (inr never) = absurd never

answer_mild : (answer : Answered) → AreMild (answer_sends answer)
answer_mild Open m among = absurd among
answer_mild Unknown m among = absurd among
answer_mild (Closed (Root joiner)) m among = one_mild joiner Done tt m among
answer_mild (Closed (Node name session)) m among = one_mild name (Ack session) tt m among

none_mild : AreMild []
none_mild m among = absurd among

heard_mild : (status : Status) (node : NodeState) (from : List ℕ) (session : ℕ)
    → AreMild (messages_by (rule_of_frame status node from (Heard session)))
unfolding frame_at_joining frame_at_core frame_at_leaving frame_at_ceased
heard_mild Joining node from session = answer_mild (answer_to (join_session_at node session))
heard_mild Core node from session = answer_mild (answer_to (join_session_at node session))
heard_mild Leaving node from session = none_mild
heard_mild Gone node from session = none_mild
heard_mild Ceased node from session = answer_mild (answer_to (join_session_at node session))

ack_mild : (status : Status) (node : NodeState) (from : List ℕ) (session : ℕ)
    → AreMild (messages_by (rule_of_frame status node from (Ack session)))
unfolding frame_at_joining frame_at_core frame_at_leaving frame_at_ceased
ack_mild Joining node from session = answer_mild (answer_to (join_session_at node session))
ack_mild Core node from session = answer_mild (answer_to (join_session_at node session))
ack_mild Leaving node from session = none_mild
ack_mild Gone node from session = none_mild
ack_mild Ceased node from session = answer_mild (answer_to (join_session_at node session))

seek_mild : (status : Status) (node : NodeState) (from joiner next : List ℕ) → sought node.ties.table joiner ≡ Forward next
    → AreMild (messages_by (rule_of_frame status node from (Seek joiner)))
unfolding frame_at_joining frame_at_core frame_at_leaving frame_at_ceased
seek_mild Joining node from joiner next is = none_mild
seek_mild Core node from joiner next is = rw is (one_mild next (Seek joiner) tt)
seek_mild Leaving node from joiner next is = none_mild
seek_mild Gone node from joiner next is = none_mild
seek_mild Ceased node from joiner next is = none_mild

-- a Link is answered by a core or leaving node with a Release, and by one that has ceased with a Forget
link_sound : (s : System) (status : Status) (node : NodeState) (from : List ℕ) (version : ℕ) (on : Bool)
    → ((status ≡ Core) ⊎ (status ≡ Leaving) → IsCoreNode s (name_of node))
    → AreSound s (name_of node) (messages_by (rule_of_frame status node from (Link version on)))
unfolding frame_at_joining frame_at_core frame_at_leaving frame_at_ceased
link_sound s status node from version on core = by_status status core
  where
    releases : (new : Bool) → IsCoreNode s (name_of node)
        → AreSound s (name_of node) (if new then message from Release ∷ [] else [])
    releases true is m (inl same) = subst (λ (n : Message). IsSoundBody s (name_of node) n.to n.body) (sym same) is
    releases true is m (inr never) = absurd never
    releases false is m among = absurd among

    forgets : (said : Bool) → AreSound s (name_of node) (if said then message from Forget ∷ [] else [])
    forgets true m among = mild_sound s (name_of node) m.to (said_of m.body) (one_mild from Forget tt m among)
    forgets false m among = absurd among

    by_status : (status : Status) → ((status ≡ Core) ⊎ (status ≡ Leaving) → IsCoreNode s (name_of node))
        → AreSound s (name_of node) (messages_by (rule_of_frame status node from (Link version on)))
    by_status Joining core = λ m among. absurd among
    by_status Core core = releases (is_new_link node from version on) (core (inl refl))
    by_status Leaving core = releases (is_new_link node from version on) (core (inr refl))
    by_status Gone core = λ m among. absurd among
    by_status Ceased core = forgets on

quiet_mild : (kind : Kind) → IsQuietKind kind → IsMildKind kind
quiet_mild kind.Hello quiet = absurd quiet
quiet_mild kind.Release quiet = absurd quiet
quiet_mild kind.Leave quiet = absurd quiet
quiet_mild _ quiet = tt

-- ---- by the kind of a frame

module _ (p : SettingsValue) (s : System) (number : ℕ) (node : NodeState) (from : List ℕ) where
  abbrev after : System
  after = after_delivery p s number

  plain_soft : (body : Body) (due : IsArriving s number node from body) → IsPlain node body
      → AreSound after (name_of node) (messages_by (rule_of_frame node.status node from body)) → NamesSoft s → NamesSoft after
  plain_soft body due plain sound soft =
      let none = starts_none_as p s number node from body due (plain_alike node from body due.known plain).opened in
      let made = plain_is_made s after number node from body (by_rule p s number node from body due) none plain in
      soft_plain_law s after number (frame_to node from body) made.0 (subst (AreSound after (name_of node)) (sym made.1) sound) soft

  mild_soft : (body : Body) (due : IsArriving s number node from body) → IsPlain node body
      → AreMild (messages_by (rule_of_frame node.status node from body)) → NamesSoft s → NamesSoft after
  mild_soft body due plain mild soft =
      plain_soft body due plain (λ m among. mild_sound after (name_of node) m.to (said_of m.body) (mild m among)) soft

  pub heard_soft : (session : ℕ) → IsArriving s number node from (Heard session) → NamesSoft s → NamesSoft after
  heard_soft session due soft = mild_soft (Heard session) due tt (heard_mild node.status node from session) soft

  pub ack_soft : (session : ℕ) → IsArriving s number node from (Ack session) → NamesSoft s → NamesSoft after
  ack_soft session due soft = mild_soft (Ack session) due tt (ack_mild node.status node from session) soft

  pub seek_soft : (joiner next : List ℕ) → IsArriving s number node from (Seek joiner) → sought node.ties.table joiner ≡ Forward next
      → NamesSoft s → NamesSoft after
  seek_soft joiner next due is soft = mild_soft (Seek joiner) due (next, is) (seek_mild node.status node from joiner next is) soft

  pub link_soft : (version : ℕ) (on : Bool) → IsArriving s number node from (Link version on) → NamesSoft s → NamesSoft after
  link_soft version on due soft =
      let alike = plain_alike node from (Link version on) due.known tt in
      let taken = by_rule p s number node from (Link version on) due in
      plain_soft (Link version on) due tt
      (link_sound after node.status node from version on (λ at. record {
        state = (taken_at node from (Link version on)).state;
        is = taken.at.is;
        core = elim at [ inl core ↦ inl (alike.status ∙ core) | inr leaving ↦ inr (alike.status ∙ leaving) ];
      })) soft

  pub quiet_soft : (body : Body) → IsQuiet body → IsPlain node body → IsArriving s number node from body → NamesSoft s → NamesSoft after
  quiet_soft body quiet plain due soft =
      let step = quiet_law node (frame_to node from body) quiet in
      let sent = rule_sends node from body due.known in
      mild_soft body due plain (λ m among. quiet_mild (kind_of m.body) (step.sent (message_frame (name_of node) m) (sent.named m among))) soft

  pub joining_soft : (tell : TellFields) (watch : List Slot) → IsArriving s number node from (tell_body tell watch) → node.status ≡ Joining
      → IsName (settings_of node) tell.joiner → IsJoiner s tell.joiner → IsJoiner s (name_of node) → (name_of node ≡ tell.joiner → ⊥)
      → NamesSoft s → NamesSoft after
  joining_soft tell watch due at name joiner here apart soft =
      let none = tell_starts_none p s number node from tell watch due (tell_in_session node from tell watch (inr at) due.known) in
      soft_joining_law s after number from (name_of node) tell watch
      (joining_tell_is_made s after number node from tell watch (by_rule p s number node from (tell_body tell watch) due) none at name)
      joiner here apart soft

  pub ceased_soft : (tell : TellFields) (watch : List Slot) → IsArriving s number node from (tell_body tell watch) → node.status ≡ Ceased
      → NamesSoft s → NamesSoft after
  ceased_soft tell watch due at soft =
      let answers = ceased_answers node from tell watch at due.known in
      let none = tell_starts_none p s number node from tell watch due (inr answers) in
      soft_ceased_law s after number from (name_of node) tell watch
      (ceased_tell_is_made s after number node from tell watch (by_rule p s number node from (tell_body tell watch) due) none at) soft

  pub hello_soft : (hello : HelloFields) → IsArriving s number node from (hello_body hello) → node.status ≡ Joining
      → IsName (settings_of node) from → AreOfferedNames (settings_of node) hello.links → NamesSoft s → NamesSoft after
  hello_soft hello due at sender names soft =
      let step = hello_law node from hello at due.known in
      let none = starts_none_as p s number node from (hello_body hello) due (ap (λ (o : SessionsValue). o.opened) step.sessions) in
      soft_hello_law s after number from (name_of node) hello
      (hello_is_made s after number node from hello (by_rule p s number node from (hello_body hello) due) none at sender names) soft

  pub release_soft : IsArriving s number node from Release → (node.status ≡ Joining) ⊎ (node.status ≡ Core)
      → IsName (settings_of node) from → NamesSoft s → NamesSoft after
  release_soft due at name soft =
      let step = release_law node from due.is_node.ties name at due.known in
      let none = starts_none_as p s number node from Release due (ap (λ (o : SessionsValue). o.opened) step.sessions) in
      soft_release_law s after number from (name_of node)
      (release_is_made s after number node from (by_rule p s number node from Release due) none at name) soft

  pub forget_soft : IsArriving s number node from Forget → (node.status ≡ Joining) ⊎ (node.status ≡ Core)
      → IsName (settings_of node) from → NamesSoft s → NamesSoft after
  forget_soft due at name soft =
      let step = forget_law node from due.is_node.ties name at due.known in
      let none = starts_none_as p s number node from Forget due (ap (λ (o : SessionsValue). o.opened) step.sessions) in
      soft_forget_law s after number from (name_of node)
      (forget_is_made s after number node from (by_rule p s number node from Forget due) none at name) soft
