-- That the log of a run can be printed.
--
-- Rule: docs/FORMATS.md, "The printed text".
use Rattle.std.specs.Prelude.{◌<◌, List, length}
use Rattle.tap_scenario.specs.Scenario.{IsScript, ScenarioValue}
use Rattle.tap_log.specs.declared.record.Record.{Record}
use Rattle.tap_report.specs.Reporter.{most_records}
use Rattle.tap_report.specs.Text.{IsPrintableLog}
use Rattle.tap_lawful.specs.Lawful.{IsLogOf}

-- the log can be printed, and a reporter counts its records
pub record CanBePrinted (log : List Record) : Type 0 where
  pub printable : IsPrintableLog log
  pub few : length log < most_records

abbrev pub LogsCanBePrinted : Type 0
LogsCanBePrinted = (s : ScenarioValue) (log : List Record) → IsScript s → IsLogOf s log → CanBePrinted log
