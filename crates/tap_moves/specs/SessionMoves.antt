-- What a frame that is delivered does with the sessions of joins, as one of six kinds of steps.
use Rattle.std.specs.Prelude.{◌≡◌, ◌⊎◌, ℕ, ◌≤◌, List, Some}
use Rattle.tap_name.specs.Settings.{SettingsValue}
use Rattle.tap_wire.specs.declared.frame.Body.{Body}
use Rattle.tap_wire.specs.declared.frame.Frame.{Frame}
use Rattle.tap_rule.specs.Event.{Start}
use Rattle.tap_rule.specs.RuleLaws.{frame_to}
use Rattle.tap_rule.specs.Node.{NodeState, Status}
use Rattle.tap_rule.specs.Node.Status.{Core, Leaving}
use Rattle.tap_safety.specs.Awaited.{AreAwaitedOnce}
use Rattle.tap_safety.specs.Bookkeeping.{Await, HasCore, HavePlaces, NodesHaveNames, TellsAreDeeper, holds_sessions}
use Rattle.tap_safety.specs.Counted.{AreCountedSo}
use Rattle.tap_safety.specs.Invariant.{Basis}
use Rattle.tap_safety.specs.Move.{may_start}
use Rattle.tap_safety.specs.Spelled.{AreAtMost, AreSpelled, most_names}
use Rattle.tap_safety.specs.Remembered.{OpenSession}
use Rattle.tap_safety.specs.Sessions.{IsOpen}
use Rattle.tap_safety.specs.Exchanges.{AreNumbered}
use Rattle.tap_safety.specs.SessionSteps.{ClosesChild, ClosesRoot, HandsOn, LeavesSessions, OpensChild, OpensRoot}
use Rattle.tap_safety.specs.System.{System, AmongFrames}
use Rattle.tap_moves.specs.ByRule.{taken_at}
use Rattle.tap_moves.specs.Delivered.{after_delivery, after_start}
use Rattle.tap_moves.specs.InvariantLaws.{IsDelivery, IsTakenThere}
use Rattle.tap_moves.specs.SessionsLaws.{IsOutside, sent_at}
use Rattle.tap_moves.specs.KnownNames.{AreNodes, IsNamedStart}

-- The kind of a step, with the node and the number of each session in it: a session awaits what is sent in place of the frame; one is
-- opened below another, or for a joiner; one is closed below another, or ends its join; or no session changes.
pub data SessionStep : Type 0 where
  Hands : List ℕ → ℕ → SessionStep
  OpensBelow : List ℕ → ℕ → List ℕ → ℕ → SessionStep
  OpensTop : List ℕ → ℕ → SessionStep
  ClosesBelow : List ℕ → ℕ → List ℕ → ℕ → SessionStep
  ClosesTop : List ℕ → ℕ → SessionStep
  LeavesAll : SessionStep

-- the frame of this number is taken, and these are sent, in a step of this kind
abbrev pub IsOfKind : SessionStep → System → System → ℕ → Frame → List (ℕ × Frame) → Type 0
IsOfKind (Hands w k) s s' number f sent = HandsOn s s' number f w k sent
IsOfKind (OpensBelow w k x l) s s' number f sent = OpensChild s s' number f w k x l sent
IsOfKind (OpensTop x l) s s' number f sent = OpensRoot s s' number f x l sent
IsOfKind (ClosesBelow x k w m) s s' number f sent = ClosesChild s s' number f x k w m sent
IsOfKind (ClosesTop x k) s s' number f sent = ClosesRoot s s' number f x k sent
IsOfKind LeavesAll s s' number f sent = LeavesSessions s s'

-- a session that is opened is the last one of the node that takes the frame, which may have some open; and below another node's
abbrev pub IsLastOpened : SessionStep → List ℕ → NodeState → Type 0
IsLastOpened (OpensBelow w k x l) own after =
    (x ≡ own) × (l ≡ after.sessions.opened) × holds_sessions after.status × (w ≡ own → ⊥)
IsLastOpened (OpensTop x l) own after = (x ≡ own) × (l ≡ after.sessions.opened) × holds_sessions after.status
IsLastOpened _ own after = Unit {0}

-- and it isn't one of that node's own join
abbrev pub IsOfAnother : SessionStep → System → List ℕ → Type 0
IsOfAnother (OpensBelow w k x l) s' own = (o : OpenSession) → IsOpen s' x l o → o.joiner ≡ own → ⊥
IsOfAnother (OpensTop x l) s' own = (o : OpenSession) → IsOpen s' x l o → o.joiner ≡ own → ⊥
IsOfAnother _ s' own = Unit {0}

-- a node that may have sessions open goes on to, and a core node stays core; a leaving node counts as core
pub record GoesOnAs (before after : Status) : Type 0 where
  pub holds : holds_sessions before → holds_sessions after
  pub core : (before ≡ Core) ⊎ (before ≡ Leaving) → (after ≡ Core) ⊎ (after ≡ Leaving)

-- A step of sessions: its kind; and the node that takes the frame goes on as it was, and has opened no fewer.
pub record StepsSessions (s s' : System) (number : ℕ) (f : Frame) (before after : NodeState) (sent : List (ℕ × Frame)) : Type 0 where
  pub kind : SessionStep
  pub is : IsOfKind kind s s' number f sent
  pub last : IsLastOpened kind f.to after
  pub other : IsOfAnother kind s' f.to
  pub status : GoesOnAs before.status after.status
  pub opened : before.sessions.opened ≤ after.sessions.opened

-- a frame that is delivered where a rule takes it, or of no session, is such a step
abbrev pub FrameSteps : Type 0
FrameSteps = (p : SettingsValue) (s : System) (number : ℕ) (node : NodeState) (from : List ℕ) (body : Body)
    → IsDelivery p s number node from body → IsTakenThere node body
    → StepsSessions s (after_delivery p s number) number (frame_to node from body) node (taken_at node from body).state
    (sent_at s node from body)

-- each session awaits each answer once, and those that it awaits are open
abbrev pub FrameAwaits : Type 0
FrameAwaits = (p : SettingsValue) (s : System) (number : ℕ) (node : NodeState) (from : List ℕ) (body : Body)
    → IsDelivery p s number node from body → IsTakenThere node body → AreAwaitedOnce (after_delivery p s number)

-- each session has its place, at a node that has opened as many
abbrev pub FramePlaces : Type 0
FramePlaces = (p : SettingsValue) (s : System) (number : ℕ) (node : NodeState) (from : List ℕ) (body : Body)
    → IsDelivery p s number node from body → IsTakenThere node body → HavePlaces (after_delivery p s number)

-- some node is core after it
abbrev pub FrameCore : Type 0
FrameCore = (p : SettingsValue) (s : System) (number : ℕ) (node : NodeState) (from : List ℕ) (body : Body)
    → IsDelivery p s number node from body → IsTakenThere node body → HasCore (after_delivery p s number)

-- what is kept of sessions by a frame of no session: each awaits an answer, and as many as its node waits for; and a Tell is one deeper
-- than its session
pub record AreBooked (s : System) : Type 0 where
  pub await : Await s
  pub counted : AreCountedSo s
  pub deeper : TellsAreDeeper s

-- each session awaits an answer, as many as its node waits for
pub record AwaitsAsMany (s : System) : Type 0 where
  pub await : Await s
  pub counted : AreCountedSo s

abbrev pub FrameCounts : Type 0
FrameCounts = (p : SettingsValue) (s : System) (number : ℕ) (node : NodeState) (from : List ℕ) (body : Body)
    → IsDelivery p s number node from body → IsTakenThere node body → AwaitsAsMany (after_delivery p s number)

abbrev pub OutsideBooks : Type 0
OutsideBooks = (p : SettingsValue) (s : System) (number : ℕ) (node : NodeState) (from : List ℕ) (body : Body)
    → IsDelivery p s number node from body → IsOutside node body → AreBooked (after_delivery p s number)

-- nodes have names of the settings, at most as many as there may be; frames have spellings, and numbers that ascend
pub record AreNamed (p : SettingsValue) (s : System) : Type 0 where
  pub names : NodesHaveNames p s
  pub few : AreAtMost s most_names
  pub spelled : AreSpelled p s
  pub numbered : AreNumbered s

-- so it is after a frame of whatever kind, whatever the status of its receiver, and after whatever is started
abbrev pub FrameNames : Type 0
FrameNames = (p : SettingsValue) (s : System) (number : ℕ) (frame : Frame) (node : NodeState) → Basis p s → AreNodes p s
    → AmongFrames number frame s.frames → s.node frame.to ≡ Some node → AreNamed p (after_delivery p s number)

abbrev pub StartNames : Type 0
StartNames = (p : SettingsValue) (s : System) (x : List ℕ) (start : Start) → Basis p s → AreNodes p s → may_start p s x start
    → IsNamedStart p start → AreNamed p (after_start p s x start)
