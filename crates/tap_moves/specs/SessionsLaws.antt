-- The laws of sessions: what is remembered of them after a frame is taken by the rule is what the kinds of steps say.
use Rattle.std.specs.Prelude.{◌≡◌, ◌⊎◌, ℕ, ◌+◌, ◌<◌, List, None, Some}
use Rattle.tap_session.specs.declared.parent.Parent.TheVariants.{Node, Root}
use Rattle.tap_wire.specs.declared.frame.Body.{Body}
use Rattle.tap_wire.specs.declared.frame.Body.TheVariants.{Seek}
use Rattle.tap_wire.specs.declared.frame.Frame.{Frame}
use Rattle.tap_wire.specs.declared.frame.TellFields.{TellFields}
use Rattle.tap_wire.specs.declared.kind.Kind.{Kind}
use Rattle.tap_wire.specs.declared.kind.Kind.TheVariants as kind
use Rattle.tap_wire.specs.Kind.{kind_of}
use Rattle.tap_name.specs.declared.slot.Slot.{Slot}
use Rattle.tap_join.specs.Seek.{sought}
use Rattle.tap_join.specs.declared.sought.Sought.TheVariants.{Forward}
use Rattle.tap_rule.specs.RuleLaws.{frame_to}
use Rattle.tap_rule.specs.QuietSteps.{IsQuietKind}
use Rattle.tap_session.specs.Session.{Session}
use Rattle.tap_rule.specs.Node.{NodeState, join_session_at, name_of}
use Rattle.tap_rule.specs.Node.Status.{Ceased, Core, Joining}
use Rattle.tap_safety.specs.Bookkeeping.{HavePlaces, TellsAreDeeper}
use Rattle.tap_safety.specs.Frames.{HelloFields, hello_body, tell_body}
use Rattle.tap_safety.specs.Joins.{AreOfJoiners}
use Rattle.tap_safety.specs.Seeking.{IsSeeker}
use Rattle.tap_safety.specs.Remembered.{OpenSession, Token}
use Rattle.tap_safety.specs.Remembered.Token.{Way}
use Rattle.tap_safety.specs.Sessions.{AmongTokens, AreExact, IsOpen}
use Rattle.tap_safety.specs.SessionSteps.{ClosesChild, ClosesRoot, HandsOn, LeavesSessions, OpensChild, OpensRoot}
use Rattle.tap_safety.specs.Exchanges.{AreNumbered, numbered_from}
use Rattle.tap_safety.specs.Counted.{AreCountedSo}
use Rattle.tap_safety.specs.System.{System, AmongFrames}
use Rattle.tap_safety.specs.Moved.{taking}
use Rattle.tap_safety.specs.Turned.{sessions_with}
use Rattle.tap_moves.specs.ByRule.{TakesByRule, taken_at}
use Rattle.tap_moves.specs.InSession.{AnswersAtOnce, OpensNext}

-- after a node has taken a frame, its sessions are remembered as it has left them
abbrev pub RemembersSessions : System → System → ℕ → NodeState → List ℕ → Body → Type 0
RemembersSessions s s' number node from body = (y : List ℕ) (k : ℕ) → s'.session y k
    ≡ sessions_with s.session (taking s number (frame_to node from body) node (taken_at node from body)) y k

-- what is known of sessions before
pub record BeforeTaking (s : System) : Type 0 where
  pub exact : AreExact s
  pub joiners : AreOfJoiners s
  pub deeper : TellsAreDeeper s
  pub places : HavePlaces s
  pub numbers : AreNumbered s

-- The session of the node with this number is open, and awaits the frame of that number alone.
pub record IsLastAnswer (s : System) (number : ℕ) (node : NodeState) (k : ℕ) : Type 0 where
  pub session : OpenSession
  pub is : IsOpen s (name_of node) k session
  pub only : (token : Token) → AmongTokens token session.awaits → token ≡ Way number

-- the frames that a node sends at a frame, with their numbers
abbrev pub sent_at : System → NodeState → List ℕ → Body → List (ℕ × Frame)
sent_at s node from body = numbered_from s.next (taken_at node from body).sent

-- a Tell for which a session is opened
abbrev pub OpensChildByTell : Type 0
OpensChildByTell = (s s' : System) (number : ℕ) (node : NodeState) (from : List ℕ) (tell : TellFields) (watch : List Slot)
    → BeforeTaking s → TakesByRule s s' number node from (tell_body tell watch)
    → RemembersSessions s s' number node from (tell_body tell watch)
    → OpensNext node (Node from tell.session) tell.depth (taken_at node from (tell_body tell watch))
    → OpensChild s s' number (frame_to node from (tell_body tell watch)) from tell.session (name_of node) (node.sessions.opened + 1)
    (sent_at s node from (tell_body tell watch))

-- a Tell that is answered at once
abbrev pub HandsOnByTell : Type 0
HandsOnByTell = (s s' : System) (number : ℕ) (node : NodeState) (from : List ℕ) (tell : TellFields) (watch : List Slot)
    → BeforeTaking s → TakesByRule s s' number node from (tell_body tell watch)
    → RemembersSessions s s' number node from (tell_body tell watch)
    → AnswersAtOnce node (Node from tell.session) (taken_at node from (tell_body tell watch))
    → HandsOn s s' number (frame_to node from (tell_body tell watch)) from tell.session (sent_at s node from (tell_body tell watch))

-- a Seek of a joiner that isn't started, at its surrogate: the session is the joiner's
abbrev pub OpensRootBySeek : Type 0
OpensRootBySeek = (s s' : System) (number : ℕ) (node : NodeState) (from joiner : List ℕ) → BeforeTaking s
    → TakesByRule s s' number node from (Seek joiner) → RemembersSessions s s' number node from (Seek joiner) → IsSeeker s joiner
    → OpensNext node (Root joiner) 0 (taken_at node from (Seek joiner))
    → (step : OpensRoot s s' number (frame_to node from (Seek joiner)) (name_of node) (node.sessions.opened + 1)
    (sent_at s node from (Seek joiner))) × (step.root.joiner ≡ joiner)

-- An answer in a session of the node that isn't the last one.
abbrev pub AnswerHandsOn : (ℕ → Body) → Type 0
AnswerHandsOn body = (s s' : System) (number : ℕ) (node : NodeState) (from : List ℕ) (k : ℕ) (a : Session) → BeforeTaking s
    → TakesByRule s s' number node from (body k) → RemembersSessions s s' number node from (body k)
    → (node.status ≡ Joining) ⊎ ((node.status ≡ Core) ⊎ (node.status ≡ Ceased)) → join_session_at node k ≡ Some a → 1 < a.waiting
    → HandsOn s s' number (frame_to node from (body k)) (name_of node) k (sent_at s node from (body k))

-- The last one, of a session whose node waits for one answer and which is remembered as awaiting this one alone: of a root session, and of
-- one that answers another.
abbrev pub AnswerClosesRoot : (ℕ → Body) → Type 0
AnswerClosesRoot body = (s s' : System) (number : ℕ) (node : NodeState) (from : List ℕ) (k : ℕ) (a : Session) (joiner : List ℕ)
    → BeforeTaking s → TakesByRule s s' number node from (body k) → RemembersSessions s s' number node from (body k)
    → (node.status ≡ Joining) ⊎ ((node.status ≡ Core) ⊎ (node.status ≡ Ceased)) → join_session_at node k ≡ Some a → a.waiting ≡ 1
    → a.parent ≡ Root joiner → (last : IsLastAnswer s number node k) → last.session.parent ≡ None
    → ClosesRoot s s' number (frame_to node from (body k)) (name_of node) k (sent_at s node from (body k))

abbrev pub AnswerClosesChild : (ℕ → Body) → Type 0
AnswerClosesChild body = (s s' : System) (number : ℕ) (node : NodeState) (from : List ℕ) (k : ℕ) (a : Session) (w : List ℕ) (m : ℕ)
    → BeforeTaking s → TakesByRule s s' number node from (body k) → RemembersSessions s s' number node from (body k)
    → (node.status ≡ Joining) ⊎ ((node.status ≡ Core) ⊎ (node.status ≡ Ceased)) → join_session_at node k ≡ Some a → a.waiting ≡ 1
    → a.parent ≡ Node w m → (last : IsLastAnswer s number node k) → last.session.parent ≡ Some (w, m)
    → ClosesChild s s' number (frame_to node from (body k)) (name_of node) k w m (sent_at s node from (body k))

-- An answer that is under way, in whichever of these three cases: the sessions are exact after it.
abbrev pub AnswerKeepsExact : (ℕ → Body) → Type 0
AnswerKeepsExact body = (s s' : System) (number : ℕ) (node : NodeState) (from : List ℕ) (k : ℕ) → BeforeTaking s → AreCountedSo s
    → TakesByRule s s' number node from (body k) → RemembersSessions s s' number node from (body k)
    → AmongFrames number (frame_to node from (body k)) s.frames → AreExact s'

-- A frame that belongs to no session, and for which nothing is sent in one: a Done, a Release, a Forget, a Link, a Seek that goes on, and
-- those of pointers and casts.
abbrev pub IsOutsideKind : Kind → Type 0
IsOutsideKind kind.Done = Unit {0}
IsOutsideKind kind.Release = Unit {0}
IsOutsideKind kind.Forget = Unit {0}
IsOutsideKind kind.Link = Unit {0}
IsOutsideKind other = IsQuietKind other

abbrev pub IsOutside : NodeState → Body → Type 0
IsOutside node (Seek joiner) = (next : List ℕ) × (sought node.ties.table joiner ≡ Forward next)
IsOutside node other = IsOutsideKind (kind_of other)

abbrev pub OutsideLeavesSessions : Type 0
OutsideLeavesSessions = (s s' : System) (number : ℕ) (node : NodeState) (from : List ℕ) (body : Body) → BeforeTaking s
    → TakesByRule s s' number node from body → RemembersSessions s s' number node from body → IsOutside node body → LeavesSessions s s'

-- A Hello, which is answered in its session.
abbrev pub HandsOnByHello : Type 0
HandsOnByHello = (s s' : System) (number : ℕ) (node : NodeState) (from : List ℕ) (hello : HelloFields) → BeforeTaking s
    → TakesByRule s s' number node from (hello_body hello) → RemembersSessions s s' number node from (hello_body hello)
    → node.status ≡ Joining
    → HandsOn s s' number (frame_to node from (hello_body hello)) from hello.session (sent_at s node from (hello_body hello))
