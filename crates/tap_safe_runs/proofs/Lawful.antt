-- The log of a run of a scenario is a run, as its steps are the scenario's; so it is safe throughout.
-- Cited above: lawful_logs_are_safe
use Rattle.std.proofs.Common.{List, All, get_or, sym, subst}
use Rattle.std.proofs.lemmas.List.Elements.{All-take}
use Rattle.tap_scenario.specs.Scenario.{IsScript, ScenarioValue}
use Rattle.tap_log.specs.declared.record.Record.{Record}
use Rattle.tap_runs.specs.Named.{HasNames}
use Rattle.tap_runs.proofs.StepNames.{step_of_scenario_has_names}
use Rattle.tap_lawful.specs.Next.{begun_count, beginning_in}
use Rattle.tap_lawful.specs.Lawful.{IsPlayed}
use Rattle.tap_lawful.proofs.Played.{played_course}
use Rattle.tap_lawful.proofs.BegunSteps.{played_steps}
use Rattle.tap_safe_runs.specs.Safe.{IsRun}
use Rattle.tap_safe_runs.specs.Lawful.{LawfulLogsAreSafe}
use Rattle.tap_safe_runs.proofs.SafeLogs.{run_is_safe}

-- its steps are the scenario's first ones, whose names are names of the settings
played_run : (s : ScenarioValue) (log : List Record) → IsScript s → IsPlayed s log → IsRun (beginning_in s) log
played_run s log valid played = record {
  course = played_course s log valid played;
  going = played.going;
  steps = subst (All (HasNames s.settings)) (sym (played_steps s log played))
      (All-take (HasNames s.settings) (begun_count log) s.steps
      (λ k d within. step_of_scenario_has_names s.settings s.carrier (get_or s.steps k d) (valid.steps k d within)));
}

pub lawful_logs_are_safe : LawfulLogsAreSafe
lawful_logs_are_safe = record {
  runs = played_run;
  safe = λ s log valid played. run_is_safe (beginning_in s) log (played_run s log valid played);
}
