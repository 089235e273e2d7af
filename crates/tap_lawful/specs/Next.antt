-- Which group comes next in the run of a scenario.
--
-- Rule: docs/FORMATS.md, "What comes next".
use Rattle.std.specs.Prelude.{ℕ, ◌+◌, List, length, slice_get, Option, None, Some}
use Rattle.std.specs.Option.{option_map}
use Rattle.tap_scenario.specs.declared.step.Step.{Step}
use Rattle.tap_scenario.specs.Scenario.{ScenarioValue}
use Rattle.tap_log.specs.declared.record.Record.{Record}
use Rattle.tap_log.specs.Log.{begun_steps}
use Rattle.tap_log.specs.Reduced.{reduced}
use Rattle.tap_runs.specs.Beginning.{Beginning}
use Rattle.tap_runs.specs.Groups.{step_group, taken_group}
use Rattle.tap_lawful.specs.Due.{number_due}
use Rattle.tap_lawful.specs.RootSets.{with_roots}

-- with what the log of a scenario's run begins
abbrev pub beginning_in : ScenarioValue → Beginning
beginning_in s = record { settings = s.settings; frames = s.frames; members = s.members }

-- how many steps were begun, the step that is begun next, and its group
abbrev pub begun_count : List Record → ℕ
begun_count log = length (begun_steps log)

abbrev pub next_step : ScenarioValue → List Record → Option Step
next_step s log = slice_get s.steps (begun_count log)

abbrev pub next_step_group : ScenarioValue → List Record → Option (List Record)
next_step_group s log = option_map (step_group s.settings log (begun_count log + 1)) (next_step s log)

-- The group that comes next: that of the frame which is due, and if none is, that of the next step. None comes if all steps were run.
abbrev pub group_after : ScenarioValue → List Record → Option ℕ → Option (List Record)
group_after s log (Some number) = Some (taken_group s.settings log number)
group_after s log None = next_step_group s log

abbrev pub next_group : ScenarioValue → List Record → Option (List Record)
next_group s log = group_after s log (number_due log)

-- The group that comes next in a run that isn't carried: what comes next after the reduced log, and the roots that it tells.
abbrev pub uncarried_next_group : ScenarioValue → List Record → Option (List Record)
uncarried_next_group s log = option_map (with_roots s.settings log) (next_group s (reduced log))
