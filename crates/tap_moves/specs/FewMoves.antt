-- Each node has few sessions of one joiner open after each frame that a rule takes, and after a start; so no Tell is at the greatest depth.
use Rattle.std.specs.Prelude.{ℕ, ◌<◌, List}
use Rattle.tap_name.specs.Settings.{SettingsValue}
use Rattle.tap_name.specs.declared.slot.Slot.{Slot}
use Rattle.tap_wire.specs.declared.frame.Body.{Body}
use Rattle.tap_wire.specs.declared.frame.TellFields.{TellFields}
use Rattle.tap_rule.specs.Event.{Start}
use Rattle.tap_rule.specs.Node.{NodeState}
use Rattle.tap_rule.specs.Strange.{most_depth}
use Rattle.tap_safety.specs.FewSessions.{SessionsAreFew}
use Rattle.tap_safety.specs.Frames.{tell_body}
use Rattle.tap_safety.specs.Invariant.{Basis}
use Rattle.tap_safety.specs.Move.{may_start}
use Rattle.tap_safety.specs.Notices.{IsNotice}
use Rattle.tap_safety.specs.Remembered.{OpenSession}
use Rattle.tap_safety.specs.Sessions.{IsOpen}
use Rattle.tap_safety.specs.System.{System, IsUnderWay}
use Rattle.tap_moves.specs.Delivered.{after_delivery, after_start}
use Rattle.tap_moves.specs.InvariantLaws.{IsDelivery, IsTakenThere}
use Rattle.tap_moves.specs.KnownNames.{AreNodes}

abbrev pub FrameFew : Type 0
FrameFew = (p : SettingsValue) (s : System) (number : ℕ) (node : NodeState) (from : List ℕ) (body : Body)
    → IsDelivery p s number node from body → IsTakenThere node body → SessionsAreFew p s → SessionsAreFew p (after_delivery p s number)

-- and after each notice of a departure
abbrev pub NoticeFew : Type 0
NoticeFew = (p : SettingsValue) (s : System) (number : ℕ) (node : NodeState) (from : List ℕ) (body : Body)
    → IsDelivery p s number node from body → IsNotice body → SessionsAreFew p s → SessionsAreFew p (after_delivery p s number)

-- a departure too, since it starts while no session is open
abbrev pub StartFew : Type 0
StartFew = (p : SettingsValue) (s : System) (x : List ℕ) (start : Start) → Basis p s → may_start p s x start
    → SessionsAreFew p s → SessionsAreFew p (after_start p s x start)

-- how many sessions of one joiner are open at most: 42 at each of 256 nodes, since names have at most 40 digits
abbrev pub most_open : ℕ
most_open = 10752

-- from each open session up to its root there are as many more as it is deep
abbrev pub SessionsAreShallow : Type 0
SessionsAreShallow = (p : SettingsValue) (s : System) (x : List ℕ) (k : ℕ) (session : OpenSession) → Basis p s → AreNodes p s
    → SessionsAreFew p s → IsOpen s x k session → session.depth < most_open

-- no Tell on its way is at the depth that no frame goes beyond
abbrev pub TellsAreShallow : Type 0
TellsAreShallow = (p : SettingsValue) (s : System) (from to : List ℕ) (fields : TellFields) (watch : List Slot) → Basis p s
    → AreNodes p s → SessionsAreFew p s → IsUnderWay s from to (tell_body fields watch) → fields.depth < most_depth
