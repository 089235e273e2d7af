-- With what a run begins: settings, how many frames may be sent, and members.
--
-- Rule: docs/FORMATS.md, "The course of a run".
use Rattle.std.specs.Prelude.{ℕ, ◌≤◌, List, [], length, All, None}
use Rattle.tap_name.specs.Name.{IsName}
use Rattle.tap_name.specs.Names.{AreDistinct}
use Rattle.tap_name.specs.Settings.{AreWithinLimits, SettingsValue}
use Rattle.tap_scenario.specs.Scenario.{most_frames, most_members}
use Rattle.tap_log.specs.declared.record.Record.{Record}
use Rattle.tap_log.specs.declared.record.Record.TheVariants.{Begin}
use Rattle.tap_safety.specs.System.{System}

-- with what a log begins: the settings, the most frames that may be sent, and the members
pub record Beginning : Type 0 where
  pub settings : SettingsValue
  pub frames : ℕ
  pub members : List (List ℕ)

abbrev pub begin_record : Beginning → Record
begin_record b = Begin b.settings b.frames b.members

-- these are within the limits of a scenario
pub record IsWithinLimits (b : Beginning) : Type 0 where
  pub settings : AreWithinLimits b.settings
  pub frames_from : 1 ≤ b.frames
  pub frames_to : b.frames ≤ most_frames b.settings.digits
  pub members_from : 1 ≤ length b.members
  pub members_to : length b.members ≤ most_members
  pub names : All (IsName b.settings) b.members
  pub distinct : AreDistinct b.members

-- a system of no nodes
abbrev pub no_system : System
no_system = record {
  node = λ name. None;
  frames = [];
  next = 0;
  surrogate = λ name. None;
  session = λ name number. None;
  last = λ from to. None;
  departing = None;
}
