-- Tables without holes.
use Rattle.std.specs.Prelude.{◌≢◌, ℕ, List, []}
use Rattle.tap_name.specs.declared.slot.Slot.{Slot}
use Rattle.tap_name.specs.Settings.{SettingsValue}
use Rattle.tap_name.specs.Slot.{Fits}
use Rattle.tap_name.specs.Root.{Among, AreNames}
use Rattle.tap_surrogate.specs.Tables.{Tables}

-- No table of a core node has a hole that another core node could fill.
pub record IsHoleFree (p : SettingsValue) (core : List (List ℕ)) (tables : Tables) : Type 0 where
  -- core nodes have names of the settings
  pub names : AreNames p core
  -- the slot of a core node at another one has a link to a core node
  pub filled : (a b : List ℕ) (slot : Slot) → Among a core → Among b core → Fits a b slot
      → tables a slot ≢ []
  -- each link of a core node stands in its own slot and is to a core node
  pub sound : (a b : List ℕ) (slot : Slot) → Among a core → Among b (tables a slot)
      → Fits a b slot × Among b core
