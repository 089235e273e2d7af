-- The laws of what a run says: each node has its own name, and each frame under way is read back from its bytes.
--
-- Rule: docs/FORMATS.md, "The course of a run" and "Frames".
use Rattle.std.specs.Prelude.{◌≡◌, ℕ, ◌<◌, ◌^◌, false, List, length, All, IfSome, Ok}
use Rattle.tap_name.specs.Settings.{SettingsValue}
use Rattle.tap_wire.specs.declared.frame.Frame.{Frame}
use Rattle.tap_wire.specs.Reading.{frame_of}
use Rattle.tap_wire.specs.Spelling.{spelling}
use Rattle.tap_log.specs.declared.record.Record.{Record}
use Rattle.tap_log.specs.Log.{begun_steps}
use Rattle.tap_history.specs.Groups.{is_ended}
use Rattle.tap_rule.specs.Node.{NodeState, name_of, settings_of}
use Rattle.tap_runs.specs.Beginning.{Beginning}
use Rattle.tap_runs.specs.Named.{HaveNames}
use Rattle.tap_runs.specs.Course.{IsCourse, system_of}

-- the node has this name, and the settings of the run
pub record IsOwn (b : Beginning) (name : List ℕ) (node : NodeState) : Type 0 where
  pub name_is : name_of node ≡ name
  pub settings_are : settings_of node ≡ b.settings

-- the frame is what its bytes are read as
abbrev pub IsReadBack : SettingsValue → ℕ × Frame → Type 0
IsReadBack p f = frame_of p (spelling p f.1) ≡ Ok f.1

-- In a course that hasn't ended each node has its own name and the settings. If the names of its steps are of the settings, and fewer than
-- 2 ^ 32 steps were begun, then each frame under way is read back from its bytes.
pub record CoursesAreReadable : Type 0 where
  pub own : (b : Beginning) (log : List Record) → IsCourse b log → is_ended log ≡ false
      → (name : List ℕ) → IfSome ((system_of log).node name) (IsOwn b name)
  pub read : (b : Beginning) (log : List Record) → IsCourse b log → is_ended log ≡ false
      → HaveNames b.settings log → length (begun_steps log) < 2 ^ 32
      → All (IsReadBack b.settings) (system_of log).frames
