-- Departures and their notices, once a notice is delivered, and once a node has started to leave.
use Rattle.std.specs.Prelude.{List, ℕ}
use Rattle.tap_name.specs.Settings.{SettingsValue}
use Rattle.tap_wire.specs.declared.frame.Body.{Body}
use Rattle.tap_rule.specs.Event.Start.{Leave}
use Rattle.tap_rule.specs.Node.{NodeState}
use Rattle.tap_safety.specs.Invariant.{Invariant}
use Rattle.tap_safety.specs.Move.{may_start}
use Rattle.tap_safety.specs.Notices.{IsNotice}
use Rattle.tap_safety.specs.System.{System}
use Rattle.tap_moves.specs.Delivered.{after_delivery, after_start}
use Rattle.tap_moves.specs.InvariantLaws.{IsDelivery}
use Rattle.tap_moves.specs.KnownNames.{AreNodes}
use Rattle.tap_moves.specs.DepartingMoves.{DepartsInOrder}

-- after a Leave, a Left and a Gone, whatever the status of the receiver
abbrev pub NoticeInOrder : Type 0
NoticeInOrder = (p : SettingsValue) (s : System) (number : ℕ) (node : NodeState) (from : List ℕ) (body : Body)
    → IsDelivery p s number node from body → IsNotice body → DepartsInOrder (after_delivery p s number)

-- and once a node has started to leave, whether it has holders or ends at once
abbrev pub LeavingInOrder : Type 0
LeavingInOrder = (p : SettingsValue) (s : System) (x : List ℕ) → Invariant p s → AreNodes p s → may_start p s x Leave
    → DepartsInOrder (after_start p s x Leave)
