-- what holds of each scenario that is made
use Rattle.std.specs.Prelude.{◌≡◌, ℕ, ◌≤◌, false, All, Some}
use Rattle.tap_name.specs.Names.{AreDistinct}
use Rattle.tap_scenario.specs.Scenario.{IsScript}
use Rattle.tap_scenario.specs.Step.{step_of_text, text_of_step}
use Rattle.tap_make.specs.MadeNames.{made_nodes, made_objects}
use Rattle.tap_make.specs.Made.{made, made_settings}

-- It is within the limits; the text of each step is read as that step; no two nodes have one name, and no two objects.
pub record IsWellMade (joins seed : ℕ) : Type 0 where
  pub script : IsScript (made joins seed)
  pub read_back : All (λ step. step_of_text made_settings false (text_of_step step) ≡ Some step) (made joins seed).steps
  pub nodes : AreDistinct (made_nodes joins seed)
  pub objects : AreDistinct (made_objects joins seed)

abbrev pub MadeLaw : Type 0
MadeLaw = (joins seed : ℕ) → 1 ≤ joins → joins ≤ 100 → IsWellMade joins seed
