-- What holds of lawful logs: those of the runs of a scenario, however far they have come.
--
-- Rule: docs/FORMATS.md, "What comes next" and "The course of a run".
use Rattle.std.specs.Prelude.{List}
use Rattle.tap_scenario.specs.Scenario.{IsScript, ScenarioValue}
use Rattle.tap_log.specs.declared.record.Record.{Record}
pub use Rattle.tap_lawful.specs.Next.{beginning_in}
pub use Rattle.tap_lawful.specs.Lawful.{IsPlayed}
use Rattle.tap_safe_runs.specs.Safe.{IsRun}
use Rattle.tap_safe_runs.specs.SafeLogs.{IsSafeThroughout}

-- The log of a run of a scenario, however far it has come, is a run: the scenario's names are names of its settings. So it is safe throughout.
pub record LawfulLogsAreSafe : Type 0 where
  pub runs : (s : ScenarioValue) (log : List Record) → IsScript s → IsPlayed s log → IsRun (beginning_in s) log
  pub safe : (s : ScenarioValue) (log : List Record) → IsScript s → IsPlayed s log → IsSafeThroughout s.settings log
