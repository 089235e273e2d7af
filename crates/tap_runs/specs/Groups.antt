-- The whole group that a step, or a frame that is taken, adds to the log of a course.
--
-- Rule: docs/FORMATS.md, "The course of a run".
use Rattle.std.specs.Prelude.{ℕ, List, ◌∷◌}
use Rattle.tap_name.specs.Settings.{SettingsValue}
use Rattle.tap_scenario.specs.declared.step.Step.{Step}
use Rattle.tap_log.specs.declared.record.Record.{Record}
use Rattle.tap_log.specs.declared.record.Record.TheVariants.{Step as StepRecord, Taken}
use Rattle.tap_runs.specs.Course.{system_of}
use Rattle.tap_runs.specs.Group.{step_records, taken_records}

-- the group of the step with this index: it, and what the refusals and the rule of a node give
abbrev pub step_group : SettingsValue → List Record → ℕ → Step → List Record
step_group p log index step = StepRecord index step ∷ step_records p log (system_of log) index step

-- the group of the frame of this number that is taken: it, and what its receiver does
abbrev pub taken_group : SettingsValue → List Record → ℕ → List Record
taken_group p log number = Taken number ∷ taken_records p log (system_of log) number
