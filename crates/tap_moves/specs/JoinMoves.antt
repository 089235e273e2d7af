-- Whose the sessions of joins are, and the one end of each join, once a frame is delivered or a node has started something.
use Rattle.std.specs.Prelude.{◌≡◌, ◌⊎◌, ℕ, List}
use Rattle.tap_name.specs.Settings.{SettingsValue}
use Rattle.tap_wire.specs.declared.frame.Body.{Body}
use Rattle.tap_wire.specs.declared.frame.Body.TheVariants.{Done}
use Rattle.tap_wire.specs.declared.frame.Frame.{Frame}
use Rattle.tap_rule.specs.Event.{Start}
use Rattle.tap_rule.specs.Node.{NodeState}
use Rattle.tap_safety.specs.Invariant.{Basis}
use Rattle.tap_safety.specs.Joins.{AreOfJoiners, EndsOnce, JoinersStay, NoDoneAmong}
use Rattle.tap_safety.specs.Move.{may_start}
use Rattle.tap_safety.specs.Notices.{IsNotice}
use Rattle.tap_safety.specs.Sessions.{AreExact}
use Rattle.tap_safety.specs.SessionSteps.{Exchanges, LeavesSessions}
use Rattle.tap_safety.specs.StepLaws.{KeepsJoins}
use Rattle.tap_safety.specs.System.{System, AmongFrames, IsJoiner}
use Rattle.tap_moves.specs.Delivered.{after_delivery, after_start}
use Rattle.tap_moves.specs.InvariantLaws.{IsDelivery, IsTakenThere}

-- the Dones that are on their way stay, and no other comes
pub record DonesStay (s s' : System) : Type 0 where
  pub on : (w b : List ℕ) (m : ℕ) → AmongFrames m (record { from = w; to = b; body = Done }) s.frames
      → AmongFrames m (record { from = w; to = b; body = Done }) s'.frames
  pub was : (w b : List ℕ) (m : ℕ) → AmongFrames m (record { from = w; to = b; body = Done }) s'.frames
      → AmongFrames m (record { from = w; to = b; body = Done }) s.frames

-- a step that leaves the sessions alone, the joiners and the Dones
abbrev pub JoinsKeptByOthers : Type 0
JoinsKeptByOthers = (s s' : System) → LeavesSessions s s' → JoinersStay s s' → DonesStay s s' → KeepsJoins s s'

-- b is a joiner no more, and the other joiners are as before, with their surrogates
pub record JoinerEnds (s s' : System) (b : List ℕ) : Type 0 where
  pub on : (d : List ℕ) → IsJoiner s d → (d ≡ b) ⊎ IsJoiner s' d
  pub was : (d : List ℕ) → IsJoiner s' d → IsJoiner s d × (d ≡ b → ⊥)
  pub surrogates : (d : List ℕ) → IsJoiner s d → s'.surrogate d ≡ s.surrogate d

-- and a Done that is taken by its joiner, which ends as one
abbrev pub JoinsKeptByDone : Type 0
JoinsKeptByDone = (s s' : System) (number : ℕ) (f : Frame) (sent : List (ℕ × Frame)) → LeavesSessions s s'
    → Exchanges s s' number f sent → f.body ≡ Done → NoDoneAmong sent → JoinerEnds s s' f.to → AreExact s → AreOfJoiners s
    → EndsOnce s → AreOfJoiners s' × EndsOnce s'

-- sessions, their frames and Dones are of joiners, each of which has its root session open, or one Done on its way
pub record HaveJoiners (s : System) : Type 0 where
  pub of_joiners : AreOfJoiners s
  pub ends_once : EndsOnce s

-- so it is after each frame that a rule takes
abbrev pub FrameJoins : Type 0
FrameJoins = (p : SettingsValue) (s : System) (number : ℕ) (node : NodeState) (from : List ℕ) (body : Body)
    → IsDelivery p s number node from body → IsTakenThere node body → HaveJoiners (after_delivery p s number)

-- after each notice of a departure, whatever the status of its receiver
abbrev pub NoticeJoins : Type 0
NoticeJoins = (p : SettingsValue) (s : System) (number : ℕ) (node : NodeState) (from : List ℕ) (body : Body)
    → IsDelivery p s number node from body → IsNotice body → HaveJoiners (after_delivery p s number)

-- and once a node has started what it may start, a departure too
abbrev pub StartJoins : Type 0
StartJoins = (p : SettingsValue) (s : System) (x : List ℕ) (start : Start) → Basis p s → may_start p s x start
    → HaveJoiners (after_start p s x start)
