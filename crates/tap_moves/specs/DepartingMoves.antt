-- Departures and their notices, once a frame that is no notice is delivered.
use Rattle.std.specs.Prelude.{ℕ, List}
use Rattle.tap_name.specs.Settings.{SettingsValue}
use Rattle.tap_wire.specs.declared.frame.Body.{Body}
use Rattle.tap_rule.specs.Node.{NodeState}
use Rattle.tap_safety.specs.Departing.{Departs, Departure}
use Rattle.tap_safety.specs.Notices.{IsNotice, Notices}
use Rattle.tap_safety.specs.Remembered.{Leaver}
use Rattle.tap_safety.specs.System.{System}
use Rattle.tap_moves.specs.Delivered.{after_delivery}
use Rattle.tap_moves.specs.InvariantLaws.{IsDelivery}

-- whoever departs does so in order, and so do its notices go; and nothing of it is left while nobody departs
pub record DepartsInOrder (s : System) : Type 0 where
  pub departure : Departure s
  pub notices : Notices s

-- while a node departs: so it is after each frame but a notice, whatever the status of its receiver; after the last frame nobody departs
abbrev pub FrameDeparting : Type 0
FrameDeparting = (p : SettingsValue) (s : System) (number : ℕ) (node : NodeState) (from : List ℕ) (body : Body)
    → IsDelivery p s number node from body → (IsNotice body → ⊥) → (leaver : Leaver) → Departs s leaver
    → DepartsInOrder (after_delivery p s number)

-- and so it is whether or not a node departs
abbrev pub FrameInOrder : Type 0
FrameInOrder = (p : SettingsValue) (s : System) (number : ℕ) (node : NodeState) (from : List ℕ) (body : Body)
    → IsDelivery p s number node from body → (IsNotice body → ⊥) → DepartsInOrder (after_delivery p s number)
