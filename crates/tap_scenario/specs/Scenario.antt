-- what a scenario is
use Rattle.std.specs.Prelude.{ℕ, ◌≤◌, nat_le, Bool, if◌then◌else◌, List, length, All}
use Rattle.tap_name.specs.Settings.{SettingsValue, AreWithinLimits}
use Rattle.tap_name.specs.Name.{IsName}
use Rattle.tap_name.specs.Names.{AreDistinct}
use Rattle.tap_scenario.specs.declared.step.Step.{Step}
use Rattle.tap_scenario.specs.Step.{IsStep}

-- the settings, how many frames may be sent, whether packets carry them, the members at the start, and the steps
pub record ScenarioValue : Type 0 where
  pub settings : SettingsValue
  pub frames : ℕ
  pub carrier : Bool
  pub members : List (List ℕ)
  pub steps : List Step

-- the most members of a scenario
abbrev pub most_members : ℕ
most_members = 64

-- the most steps of a scenario
abbrev pub most_steps : ℕ
most_steps = 10000

-- the most frames that a run may send, by the number of digits
abbrev pub most_frames : ℕ → ℕ
most_frames digits = if nat_le digits 8 then 500000 else 100000

-- each part is within its limits
pub record IsScript (s : ScenarioValue) : Type 0 where
  pub settings : AreWithinLimits s.settings
  pub frames_from : 1 ≤ s.frames
  pub frames_to : s.frames ≤ most_frames s.settings.digits
  pub members_from : 1 ≤ length s.members
  pub members_to : length s.members ≤ most_members
  pub members : All (IsName s.settings) s.members
  pub distinct : AreDistinct s.members
  pub steps_to : length s.steps ≤ most_steps
  pub steps : All (IsStep s.settings s.carrier) s.steps
