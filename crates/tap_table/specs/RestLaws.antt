-- The laws of tables at rest.
use Rattle.std.specs.Prelude.{ℕ, List, take, AllPairs}
use Rattle.tap_name.specs.declared.slot.Slot.{Slot}
use Rattle.tap_name.specs.Settings.{SettingsValue}
use Rattle.tap_table.specs.Members.{AreAtRest, AreLeastFitting, IsBelow, IsTableAtRest, fitting}
use Rattle.tap_table.specs.Ties.{TiesValue}

-- a member that is made at rest has its table at rest
abbrev pub TiesLaw : Type 0
TiesLaw = (p : SettingsValue) (owner : List ℕ) (members : List (List ℕ)) (ties : TiesValue)
    → AreAtRest p owner members ties → IsTableAtRest p owner members ties.table

-- of ascending members the first ones that fit a slot are the least ones
abbrev pub FirstFittingLaw : Type 0
FirstFittingLaw = (width : ℕ) (owner : List ℕ) (slot : Slot) (members : List (List ℕ))
    → AllPairs IsBelow members → AreLeastFitting width owner slot members (take width (fitting owner slot members))
