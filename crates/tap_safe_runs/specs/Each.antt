-- What each group of a run says, after the records before it.
--
-- Rule: docs/FORMATS.md, "The course of a run".
use Rattle.std.specs.Prelude.{◌⊎◌, List, ◌∷◌}
use Rattle.tap_name.specs.Settings.{SettingsValue}
use Rattle.tap_scenario.specs.declared.step.Step.TheVariants.{Root, Walk}
use Rattle.tap_log.specs.declared.record.Record.{Record}
use Rattle.tap_log.specs.declared.record.Record.TheVariants.{Step as StepRecord, Taken}
use Rattle.tap_history.specs.Groups.{EachGroup}
use Rattle.tap_runs.specs.Beginning.{Beginning}
use Rattle.tap_runs.specs.Course.{IsRefused, system_of}
use Rattle.tap_safe_runs.specs.Printed.{IsTheRoot, IsWalkToRoot}
use Rattle.tap_safe_runs.specs.Safe.{IsRun}
use Rattle.tap_safe_runs.specs.Taken.{IsReceived}

-- A walk is refused or leads to the root, a root is that of the core nodes, and a frame that is taken is received by a node. Of other
-- groups nothing is said here.
unfoldable pub IsRight : SettingsValue → List Record → List Record → Type 0
IsRight p before (StepRecord index (Walk object from) ∷ items) = IsRefused index items ⊎ IsWalkToRoot p before object from items
IsRight p before (StepRecord index (Root object) ∷ items) = IsTheRoot p before object items
IsRight p before (Taken number ∷ items) = IsReceived p before (system_of before) number items
IsRight p before other = Unit {0}

-- so each group of a run is
abbrev pub GroupsAreRight : Type 0
GroupsAreRight = (b : Beginning) (log : List Record) → IsRun b log → EachGroup (IsRight b.settings) log
