-- Each frame of a join where a rule takes it, but the Done of a join that was given up, and those of pointers and casts: who is named,
-- seekers, Tells and departures, once it is delivered.
use Rattle.std.specs.Prelude.{◌≡◌, ℕ, List, None}
use Rattle.tap_name.specs.Settings.{SettingsValue}
use Rattle.tap_wire.specs.declared.frame.Body.{Body}
use Rattle.tap_rule.specs.Node.{NodeState}
use Rattle.tap_safety.specs.Soft.{NamesSoft}
use Rattle.tap_safety.specs.System.{System}
use Rattle.tap_moves.specs.CalmMoves.{AreSought, IsPeaceful}
use Rattle.tap_moves.specs.Delivered.{after_delivery}
use Rattle.tap_moves.specs.InvariantLaws.{IsDelivery, IsFilledThere}

-- settled links are to core nodes after it, and pins to soft ones
abbrev pub TakenSoft : Type 0
TakenSoft = (p : SettingsValue) (s : System) (number : ℕ) (node : NodeState) (from : List ℕ) (body : Body)
    → IsDelivery p s number node from body → IsFilledThere node body → NamesSoft (after_delivery p s number)

-- who isn't started is known to nobody but its one Seek, and Tells are sound
abbrev pub TakenSeeks : Type 0
TakenSeeks = (p : SettingsValue) (s : System) (number : ℕ) (node : NodeState) (from : List ℕ) (body : Body)
    → IsDelivery p s number node from body → IsFilledThere node body → AreSought p (after_delivery p s number)

-- while nobody departs, nobody does after it
abbrev pub TakenPeaceful : Type 0
TakenPeaceful = (p : SettingsValue) (s : System) (number : ℕ) (node : NodeState) (from : List ℕ) (body : Body)
    → IsDelivery p s number node from body → IsFilledThere node body → s.departing ≡ None → IsPeaceful (after_delivery p s number)
