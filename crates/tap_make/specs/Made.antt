-- the scenario that is made for a number of joins from a seed
use Rattle.std.specs.Prelude.{ℕ, false}
use Rattle.tap_name.specs.Settings.{SettingsValue}
use Rattle.tap_scenario.specs.Scenario.{ScenarioValue}
use Rattle.tap_make.specs.MadeNames.{made_members}
use Rattle.tap_make.specs.MadeSteps.{made_steps}

-- names of eight hexadecimal digits, and slots of two links
abbrev pub made_settings : SettingsValue
made_settings = record { base = 16; digits = 8; width = 2 }

-- the whole scenario, which isn't carried
abbrev pub made : ℕ → ℕ → ScenarioValue
made joins seed = record {
  settings = made_settings;
  frames = 500000;
  carrier = false;
  members = made_members seed;
  steps = made_steps joins seed;
}
