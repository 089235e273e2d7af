-- What the kinds of steps do with the sessions that nodes keep.
use Rattle.std.specs.Prelude.{◌≡◌, ◌⊎◌, ℕ, ◌+◌, List, [], length, None, Some}
use Rattle.tap_session.specs.Session.{Session}
use Rattle.tap_wire.specs.declared.frame.Frame.{Frame}
use Rattle.tap_rule.specs.Node.{NodeState, join_session_at}
use Rattle.tap_safety.specs.Awaited.{AreAwaitedOnce}
use Rattle.tap_safety.specs.Counted.{AreCountedSo, IsKeptSo}
use Rattle.tap_safety.specs.SessionSteps.{ClosesChild, ClosesRoot, HandsOn, LeavesSessions, OpensChild, OpensRoot, child_of}
use Rattle.tap_safety.specs.Sessions.{AreExact, ways_of}
use Rattle.tap_safety.specs.Exchanges.{ChangesAt}
use Rattle.tap_safety.specs.System.{System}

-- a node keeps its sessions
abbrev pub SessionsStay : NodeState → NodeState → Type 0
SessionsStay before after = (n : ℕ) → join_session_at after n ≡ join_session_at before n

-- a node keeps its sessions but that of this number
abbrev pub OthersStay : NodeState → NodeState → ℕ → Type 0
OthersStay before after k = (n : ℕ) → (n ≡ k) ⊎ (join_session_at after n ≡ join_session_at before n)

-- the session of this number waits for one answer less
pub record CountsDown (before after : NodeState) (k : ℕ) : Type 0 where
  pub old : Session
  pub was : join_session_at before k ≡ Some old
  pub now : Session
  pub is : join_session_at after k ≡ Some now
  pub parent : now.parent ≡ old.parent
  pub depth : now.depth ≡ old.depth
  pub waiting : old.waiting ≡ now.waiting + 1
  pub others : OthersStay before after k

-- a frame is answered at once, by one other
abbrev pub CountedKeptByAnswering : Type 0
CountedKeptByAnswering = (s s' : System) (number : ℕ) (f : Frame) (w : List ℕ) (k : ℕ) (sent : List (ℕ × Frame)) (x : List ℕ)
    (before after : NodeState) → HandsOn s s' number f w k sent → ChangesAt s s' x before after → SessionsStay before after
    → length (ways_of w k sent) ≡ 1 → AreExact s → AreAwaitedOnce s → AreCountedSo s → AreCountedSo s'

-- an answer is taken that isn't the last one
abbrev pub CountedKeptByAnswer : Type 0
CountedKeptByAnswer = (s s' : System) (number : ℕ) (f : Frame) (w : List ℕ) (k : ℕ) (sent : List (ℕ × Frame)) (before after : NodeState)
    → HandsOn s s' number f w k sent → ChangesAt s s' w before after → CountsDown before after k → ways_of w k sent ≡ []
    → AreExact s → AreAwaitedOnce s → AreCountedSo s → AreCountedSo s'

-- a session is opened below another, or as a root
abbrev pub CountedKeptByOpening : Type 0
CountedKeptByOpening = (s s' : System) (number : ℕ) (f : Frame) (w : List ℕ) (k : ℕ) (x : List ℕ) (l : ℕ) (sent : List (ℕ × Frame))
    (before after : NodeState) (kept : Session) → (step : OpensChild s s' number f w k x l sent) → ChangesAt s s' x before after
    → OthersStay before after l → join_session_at after l ≡ Some kept → IsKeptSo kept (child_of step.before w k (ways_of x l sent))
    → AreExact s → AreAwaitedOnce s → AreCountedSo s → AreCountedSo s'

abbrev pub CountedKeptByRoot : Type 0
CountedKeptByRoot = (s s' : System) (number : ℕ) (f : Frame) (x : List ℕ) (l : ℕ) (sent : List (ℕ × Frame)) (before after : NodeState)
    (kept : Session) → (step : OpensRoot s s' number f x l sent) → ChangesAt s s' x before after → OthersStay before after l
    → join_session_at after l ≡ Some kept → IsKeptSo kept step.root → AreCountedSo s → AreCountedSo s'

-- one is closed by its last answer: below another, which awaits one frame in its place, or as a root
abbrev pub CountedKeptByClosing : Type 0
CountedKeptByClosing = (s s' : System) (number : ℕ) (f : Frame) (x : List ℕ) (k : ℕ) (w : List ℕ) (m : ℕ) (sent : List (ℕ × Frame))
    (before after : NodeState) → ClosesChild s s' number f x k w m sent → ChangesAt s s' x before after → OthersStay before after k
    → join_session_at after k ≡ None → length (ways_of w m sent) ≡ 1 → AreExact s → AreAwaitedOnce s → AreCountedSo s
    → AreCountedSo s'

abbrev pub CountedKeptByLastAnswer : Type 0
CountedKeptByLastAnswer = (s s' : System) (number : ℕ) (f : Frame) (x : List ℕ) (k : ℕ) (sent : List (ℕ × Frame))
    (before after : NodeState) → ClosesRoot s s' number f x k sent → ChangesAt s s' x before after → OthersStay before after k
    → join_session_at after k ≡ None → AreCountedSo s → AreCountedSo s'

-- no session changes
abbrev pub CountedKeptByOthers : Type 0
CountedKeptByOthers = (s s' : System) (x : List ℕ) (before after : NodeState) → LeavesSessions s s' → ChangesAt s s' x before after
    → SessionsStay before after → AreCountedSo s → AreCountedSo s'
