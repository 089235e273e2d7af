-- A delivered frame is taken by the rule, and what holds before holds after it.
-- Cited above: by_rule, is_found, starts_none, starts_none_as, tell_starts_none
use Rattle.std.proofs.Common.{◌≡◌, ◌⊎◌, ℕ, ◌+◌, List, Option, None, Some, ap, refl, subst, ◌∙◌, inl, inr}
use Rattle.tap_name.specs.Settings.{SettingsValue}
use Rattle.tap_session.specs.declared.parent.Parent.{Parent}
use Rattle.tap_session.specs.declared.parent.Parent.TheVariants.{Node, Root}
use Rattle.tap_name.specs.declared.slot.Slot.{Slot}
use Rattle.tap_session.specs.Session.{Session, SessionsValue}
use Rattle.tap_session.specs.Sessions.{next_session}
use Rattle.tap_wire.specs.declared.frame.Body.{Body}
use Rattle.tap_wire.specs.declared.frame.Body.TheVariants.{Ack, Done, Forget, Heard, Link, Release, Seek}
use Rattle.tap_wire.specs.declared.frame.TellFields.{TellFields}
use Rattle.tap_wire.specs.declared.frame.Frame.{Frame}
use Rattle.tap_rule.specs.Act.{act}
use Rattle.tap_rule.specs.Event.Event.{Takes}
use Rattle.tap_rule.specs.RuleLaws.{frame_to}
use Rattle.tap_rule.specs.Node.{NodeState, name_of, settings_of}
use Rattle.tap_safety.specs.Frames.{hello_body, tell_body}
use Rattle.tap_safety.specs.Moved.{moved, numbered_frame, taking}
use Rattle.tap_safety.specs.Move.Move.{Delivers}
use Rattle.tap_safety.specs.System.{System}
use Rattle.tap_safety.specs.Turned.{opened_by, seated, sessions_with, surrogates_with}
use Rattle.tap_safety.specs.DoneStep.{DoneIsTaken}
use Rattle.tap_safety.specs.Remembered.{TieWord}
use Rattle.tap_safety.specs.Sessions.{AreExact}
use Rattle.tap_safety.specs.Exchanges.{with_at}
use Rattle.tap_safety.specs.TellStep.{CoversAnew, KnownTellIsTaken, TellIsTaken}
use Rattle.tap_safety.proofs.Moved.{delivers, found, with_at-here, with_at-others}
use Rattle.tap_safety.proofs.SessionLaws.{opened_law}
use Rattle.tap_safety.proofs.StepLaws.{filled_done_law, filled_known_law, filled_seat_law, filled_tell_law, forget_filled_law, handing_on_law, hello_filled_law, others_law, plain_law, release_filled_law, root_opened_law, tell_ceased_law, tell_joining_law}
use Rattle.tap_safety.proofs.TiesLaws.{ties_law, versions_law}
use Rattle.tap_join.proofs.Seeking.{surrogate_is}
use Rattle.tap_rule.proofs.CoverSteps.{seek_fits}
use Rattle.tap_rule.proofs.JoinSteps.{done_law as done_step_law, hello_law as hello_step_law}
use Rattle.tap_rule.proofs.LinkSteps.{forget_law as forget_step_law, release_law as release_step_law}
use Rattle.tap_moves.specs.ByRule.{StartsNone, TakesByRule, taken_at}
use Rattle.tap_moves.specs.Delivered.{IsArriving, after_delivery}
use Rattle.tap_moves.specs.InSession.{OpensNext, OpensOrAnswers}
use Rattle.tap_moves.specs.MovesLaws.{AnswerKeepsSessions, CeasedTellKeeps, DeliveryIsByRule, DoneKeeps, ForgetKeeps, HelloKeeps, HelloKeepsSessions, JoiningTellKeeps, KnownTellKeeps, LinkKeeps, OutsideKeepsSessions, PlainKeeps, ReleaseKeeps, SeekKeeps, SeekKeepsSessions, TellKeeps, TellKeepsSessions}
use Rattle.tap_moves.specs.SessionsLaws.{AnswerKeepsExact, BeforeTaking, RemembersSessions, sent_at}
use Rattle.tap_moves.specs.TiesLaws.{RemembersWords}
use Rattle.tap_moves.proofs.AnswersMade.{ack_keeps_exact, heard_keeps_exact}
use Rattle.tap_moves.proofs.OutsideMade.{hello_hands_on, outside_leaves}
use Rattle.tap_moves.proofs.FramesMade.{ceased_tell_is_made, forget_is_made, hello_is_made, joining_tell_is_made, release_is_made}
use Rattle.tap_moves.proofs.InSession.{ceased_answers, seek_opens, tell_in_session}
use Rattle.tap_moves.proofs.LinkMade.{link_is_made}
use Rattle.tap_moves.proofs.Made.{done_is_made, known_tell_is_made, new_tell_is_made}
use Rattle.tap_moves.proofs.SeekMade.{seek_covers, seek_greets}
use Rattle.tap_moves.proofs.Plain.{plain_alike, plain_is_made}
use Rattle.tap_moves.proofs.SessionsMade.{hands_on, none_opened, opened_found, opens_child, opens_root}

-- ---- who is started

-- no root session is opened
abbrev IsOfNode : Parent → Type 0
IsOfNode (Root joiner) = ⊥
IsOfNode (Node name session) = Unit {0}

abbrev IsNoRoot : Option Session → Type 0
IsNoRoot None = Unit {0}
IsNoRoot (Some session) = IsOfNode session.parent

unseated : (surrogates : List ℕ → Option (List ℕ)) (x b : List ℕ) (opened : Option Session) → IsNoRoot opened
    → surrogates_with surrogates x opened b ≡ surrogates b
unseated surrogates x b None no_root = refl
unseated surrogates x b (Some session) no_root = by_parent session.parent no_root
  where
    by_parent : (parent : Parent) → IsOfNode parent → seated surrogates x parent b ≡ surrogates b
    by_parent (Root joiner) no_root = absurd no_root
    by_parent (Node name number) no_root = refl

-- ---- what is remembered after a delivery

module _ (p : SettingsValue) (s : System) (number : ℕ) (frame : Frame) (node : NodeState)
    (is : numbered_frame number s.frames ≡ Some frame) (at : s.node frame.to ≡ Some node) where
  sessions_after : (y : List ℕ) (k : ℕ) → (moved p s (Delivers number)).session y k
      ≡ sessions_with s.session (taking s number frame node (act node (Takes frame))) y k
  unfolding moved
  sessions_after y k = rw (is, at) refl

  surrogates_after : (b : List ℕ) → (moved p s (Delivers number)).surrogate b
      ≡ surrogates_with s.surrogate frame.to (opened_by (taking s number frame node (act node (Takes frame)))) b
  unfolding moved
  surrogates_after b = rw (is, at) refl

module _ (p : SettingsValue) (s : System) (number : ℕ) (node : NodeState) (from : List ℕ) (body : Body)
    (due : IsArriving s number node from body) where
  abbrev frame : Frame
  frame = frame_to node from body

  pub is_found : numbered_frame number s.frames ≡ Some frame
  is_found = found number frame 0 s.frames s.next due.numbers.numbers due.among

  pub by_rule : TakesByRule s (after_delivery p s number) number node from body
  by_rule =
      let step = delivers p s number frame node is_found due.at in
      record { is_node = due.is_node; known = due.known; taken = step.taken; at = step.at }

  pub remembers : RemembersSessions s (after_delivery p s number) number node from body
  remembers = sessions_after p s number frame node is_found due.at

  -- no joiner is started by a step that opens no session, or one that answers another node's
  pub starts_none : (opened : Option Session) → opened_by (taking s number frame node (taken_at node from body)) ≡ opened
      → IsNoRoot opened → StartsNone s (after_delivery p s number)
  starts_none opened is no_root b =
      surrogates_after p s number frame node is_found due.at b
      ∙ ap (λ (o : Option Session). surrogates_with s.surrogate (name_of node) o b) is
      ∙ unseated s.surrogate (name_of node) b opened no_root

  -- nor by one that opens no session
  pub starts_none_as : (taken_at node from body).state.sessions.opened ≡ node.sessions.opened → StartsNone s (after_delivery p s number)
  starts_none_as same = starts_none None (none_opened node.sessions (taken_at node from body).state.sessions same) tt

pub delivery_is_by_rule : DeliveryIsByRule
delivery_is_by_rule p s number node from body due = (by_rule p s number node from body due, remembers p s number node from body due)

-- ---- Done, Tell

abbrev opened_in : SessionsValue → ℕ
opened_in sessions = sessions.opened

pub done_keeps : DoneKeeps
done_keeps p s number node from due at joined before quiet =
    let s' = after_delivery p s number in
    let step = done_step_law node from at joined due.known in
    let none = starts_none_as p s number node from Done due (ap opened_in step.sessions) in
    let is : DoneIsTaken p s s' = record {
      number = number;
      from = from;
      to = name_of node;
      before = before;
      quiet = quiet;
      step = done_is_made s s' number node from (by_rule p s number node from Done due) none at joined;
    } in
    filled_done_law p s s' is

-- a Tell starts none
pub tell_starts_none : (p : SettingsValue) (s : System) (number : ℕ) (node : NodeState) (from : List ℕ) (tell : TellFields) (watch : List Slot)
    → IsArriving s number node from (tell_body tell watch)
    → OpensOrAnswers node (Node from tell.session) tell.depth (taken_at node from (tell_body tell watch))
    → StartsNone s (after_delivery p s number)
tell_starts_none p s number node from tell watch due (inl opens) =
    starts_none p s number node from (tell_body tell watch) due
    (Some (next_session node.sessions (Node from tell.session) tell.depth opens.waiting))
    (opened_found node.sessions (taken_at node from (tell_body tell watch)).state.sessions (Node from tell.session) tell.depth opens.waiting
    due.is_node.sessions opens.sessions) tt
tell_starts_none p s number node from tell watch due (inr answers) =
    starts_none_as p s number node from (tell_body tell watch) due (ap opened_in answers.sessions)

pub tell_keeps : TellKeeps
tell_keeps p s number node from tell watch due at name anew before is filled =
    let s' = after_delivery p s number in
    let none = tell_starts_none p s number node from tell watch due (tell_in_session node from tell watch (inl at) due.known) in
    let taken : TellIsTaken p s s' = record {
      number = number;
      from = from;
      to = name_of node;
      tell = tell;
      watch = watch;
      before = before;
      is = is;
      step = new_tell_is_made s s' number node from tell watch (by_rule p s number node from (tell_body tell watch) due) none at name anew;
    } in
    filled_tell_law p s s' taken filled

pub known_tell_keeps : KnownTellKeeps
known_tell_keeps p s number node from tell watch kept due at name pinned level most before is filled =
    let s' = after_delivery p s number in
    let none = tell_starts_none p s number node from tell watch due (tell_in_session node from tell watch (inl at) due.known) in
    let taken : KnownTellIsTaken p s s' = record {
      number = number;
      from = from;
      to = name_of node;
      tell = tell;
      watch = watch;
      before = before;
      is = is;
      step =
          known_tell_is_made s s' number node from tell watch kept (by_rule p s number node from (tell_body tell watch) due) none at name
          pinned level most;
    } in
    filled_known_law p s s' taken filled

-- ---- Seek

-- who seats a joiner is its surrogate, and no other one changes
module _ (p : SettingsValue) (s : System) (number : ℕ) (node : NodeState) (from joiner : List ℕ)
    (due : IsArriving s number node from (Seek joiner)) (opens : OpensNext node (Root joiner) 0 (taken_at node from (Seek joiner))) where
  abbrev own : List ℕ
  own = name_of node

  surrogates_are : (b : List ℕ) → (after_delivery p s number).surrogate b ≡ with_at s.surrogate joiner (Some own) b
  surrogates_are b =
      surrogates_after p s number (frame_to node from (Seek joiner)) node (is_found p s number node from (Seek joiner) due) due.at b
      ∙ ap (λ (o : Option Session). surrogates_with s.surrogate own o b)
      (opened_found node.sessions (taken_at node from (Seek joiner)).state.sessions (Root joiner) 0 opens.waiting due.is_node.sessions
      opens.sessions)

  seated_now : (after_delivery p s number).surrogate joiner ≡ Some own
  seated_now = surrogates_are joiner ∙ with_at-here s.surrogate joiner (Some own)

  seated_others : (d : List ℕ) → (d ≡ joiner) ⊎ ((after_delivery p s number).surrogate d ≡ s.surrogate d)
  seated_others d = elim (with_at-others s.surrogate joiner (Some own) d) [
    | inl same ↦ inl same
    | inr stays ↦ inr (surrogates_are d ∙ stays)
  ]

pub seek_keeps : SeekKeeps
seek_keeps s number node from joiner prefix due at name is before filled =
    let p = settings_of node in
    let s' = after_delivery p s number in
    let taken = by_rule p s number node from (Seek joiner) due in
    let opens = seek_opens node from joiner prefix at due.known is in
    let apart = (seek_fits node from joiner prefix due.known is).apart in
    let near = (surrogate_is node.ties.table due.is_node.ties.table joiner name apart prefix is).0 in
    let acted = taken_at node from (Seek joiner) in
    let covers = subst (λ n. CoversAnew node acted.state acted.sent (name_of node) joiner n n) near
    (seek_covers s s' number node from joiner prefix taken at name is) in
    filled_seat_law p s s' number from (name_of node) joiner
    (record {
      before = node;
      after = acted.state;
      sent = acted.sent;
      taken = taken.taken;
      at = taken.at;
      covers = covers;
      greets = seek_greets s s' number node from joiner prefix taken at name is;
      seated = seated_now p s number node from joiner due opens;
      others = seated_others p s number node from joiner due opens;
    })
    before filled

-- ---- frames that make no node core and add no cover

pub plain_keeps : PlainKeeps
plain_keeps p s number node from body due plain filled =
    let s' = after_delivery p s number in
    let none = starts_none_as p s number node from body due (plain_alike node from body due.known plain).opened in
    plain_law p s s' number (frame_to node from body)
    (plain_is_made s s' number node from body (by_rule p s number node from body due) none plain).0 filled

pub joining_tell_keeps : JoiningTellKeeps
joining_tell_keeps p s number node from tell watch due at name filled =
    let s' = after_delivery p s number in
    let none = tell_starts_none p s number node from tell watch due (tell_in_session node from tell watch (inr at) due.known) in
    tell_joining_law p s s' number from (name_of node) tell watch
    (joining_tell_is_made s s' number node from tell watch (by_rule p s number node from (tell_body tell watch) due) none at name) filled

pub ceased_tell_keeps : CeasedTellKeeps
ceased_tell_keeps p s number node from tell watch due at filled =
    let s' = after_delivery p s number in
    let answers = ceased_answers node from tell watch at due.known in
    let none = tell_starts_none p s number node from tell watch due (inr answers) in
    tell_ceased_law p s s' number from (name_of node) tell watch
    (ceased_tell_is_made s s' number node from tell watch (by_rule p s number node from (tell_body tell watch) due) none at) filled

pub hello_keeps : HelloKeeps
hello_keeps p s number node from hello due at sender names soft filled =
    let s' = after_delivery p s number in
    let step = hello_step_law node from hello at due.known in
    let none = starts_none_as p s number node from (hello_body hello) due (ap opened_in step.sessions) in
    hello_filled_law p s s' number from (name_of node) hello
    (hello_is_made s s' number node from hello (by_rule p s number node from (hello_body hello) due) none at sender names) soft filled

pub release_keeps : ReleaseKeeps
release_keeps p s number node from due at name soft filled =
    let s' = after_delivery p s number in
    let step = release_step_law node from due.is_node.ties name at due.known in
    let none = starts_none_as p s number node from Release due (ap opened_in step.sessions) in
    release_filled_law p s s' number from (name_of node)
    (release_is_made s s' number node from (by_rule p s number node from Release due) none at name) soft filled

pub forget_keeps : ForgetKeeps
forget_keeps p s number node from due at name ceased filled =
    let s' = after_delivery p s number in
    let step = forget_step_law node from due.is_node.ties name at due.known in
    let none = starts_none_as p s number node from Forget due (ap opened_in step.sessions) in
    forget_filled_law p s s' number from (name_of node)
    (forget_is_made s s' number node from (by_rule p s number node from Forget due) none at name) ceased filled

-- ---- Link, and sessions

remembers_words : (p : SettingsValue) (s : System) (number : ℕ) (node : NodeState) (from : List ℕ) (word : TieWord)
    → IsArriving s number node from (Link word.version word.on) → RemembersWords s (after_delivery p s number) node from word
remembers_words p s number node from word due =
    let frame = frame_to node from (Link word.version word.on) in
    let step = delivers p s number frame node (is_found p s number node from (Link word.version word.on) due) due.at in
    record { own = step.done.words; others = step.done.others_words }

pub link_keeps : LinkKeeps
link_keeps p s number node from word due stamped heard laid ties versions =
    let s' = after_delivery p s number in
    let step = link_is_made s s' number node from word (by_rule p s number node from (Link word.version word.on) due)
    (remembers_words p s number node from word due) due.numbers stamped heard laid in
    (ties_law s s' from (name_of node) word step ties versions, versions_law s s' from (name_of node) word step versions)

tell_sessions : (p : SettingsValue) (s : System) (number : ℕ) (node : NodeState) (from : List ℕ) (tell : TellFields) (watch : List Slot)
    → IsArriving s number node from (tell_body tell watch) → BeforeTaking s
    → OpensOrAnswers node (Node from tell.session) tell.depth (taken_at node from (tell_body tell watch))
    → AreExact (after_delivery p s number)
tell_sessions p s number node from tell watch due before (inl opens) =
    opened_law s (after_delivery p s number) number (frame_to node from (tell_body tell watch)) from tell.session (name_of node)
    (node.sessions.opened + 1) (sent_at s node from (tell_body tell watch))
    (opens_child s (after_delivery p s number) number node from tell watch before
    (by_rule p s number node from (tell_body tell watch) due) (remembers p s number node from (tell_body tell watch) due) opens)
    before.exact
tell_sessions p s number node from tell watch due before (inr answers) =
    handing_on_law s (after_delivery p s number) number (frame_to node from (tell_body tell watch)) from tell.session
    (sent_at s node from (tell_body tell watch))
    (hands_on s (after_delivery p s number) number node from tell watch before
    (by_rule p s number node from (tell_body tell watch) due) (remembers p s number node from (tell_body tell watch) due) answers)
    before.exact

pub tell_keeps_sessions : TellKeepsSessions
tell_keeps_sessions p s number node from tell watch due (inl at) before =
    tell_sessions p s number node from tell watch due before (tell_in_session node from tell watch (inl at) due.known)
tell_keeps_sessions p s number node from tell watch due (inr (inl at)) before =
    tell_sessions p s number node from tell watch due before (tell_in_session node from tell watch (inr at) due.known)
tell_keeps_sessions p s number node from tell watch due (inr (inr at)) before =
    tell_sessions p s number node from tell watch due before (inr (ceased_answers node from tell watch at due.known))

pub answer_keeps_sessions : (body : ℕ → Body) → AnswerKeepsExact body → AnswerKeepsSessions body
answer_keeps_sessions body law p s number node from k due before counted =
    law s (after_delivery p s number) number node from k before counted (by_rule p s number node from (body k) due)
    (remembers p s number node from (body k) due) due.among

pub heard_keeps_sessions : AnswerKeepsSessions Heard
heard_keeps_sessions = answer_keeps_sessions Heard heard_keeps_exact

pub ack_keeps_sessions : AnswerKeepsSessions Ack
ack_keeps_sessions = answer_keeps_sessions Ack ack_keeps_exact

pub hello_keeps_sessions : HelloKeepsSessions
hello_keeps_sessions p s number node from hello due at before =
    handing_on_law s (after_delivery p s number) number (frame_to node from (hello_body hello)) from hello.session
    (sent_at s node from (hello_body hello))
    (hello_hands_on s (after_delivery p s number) number node from hello before (by_rule p s number node from (hello_body hello) due)
    (remembers p s number node from (hello_body hello) due) at) before.exact

pub outside_keeps_sessions : OutsideKeepsSessions
outside_keeps_sessions p s number node from body due outside before =
    others_law s (after_delivery p s number)
    (outside_leaves s (after_delivery p s number) number node from body before (by_rule p s number node from body due)
    (remembers p s number node from body due) outside) before.exact

pub seek_keeps_sessions : SeekKeepsSessions
seek_keeps_sessions p s number node from joiner prefix due at is seeker before =
    let opens = seek_opens node from joiner prefix at due.known is in
    root_opened_law s (after_delivery p s number) number (frame_to node from (Seek joiner)) (name_of node) (node.sessions.opened + 1)
    (sent_at s node from (Seek joiner))
    (opens_root s (after_delivery p s number) number node from joiner before (by_rule p s number node from (Seek joiner) due)
    (remembers p s number node from (Seek joiner) due) seeker opens).0 before.exact
