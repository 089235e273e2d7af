-- The log of each run is a shape, so its text is read back.
--
-- Rule: docs/FORMATS.md, "The printed text".
use Rattle.std.specs.Prelude.{List, ◌++◌}
use Rattle.tap_scenario.specs.Scenario.{IsScript, ScenarioValue}
use Rattle.tap_log.specs.declared.record.Record.{Record}
use Rattle.tap_report.specs.Text.{text_of_log}
use Rattle.tap_report.specs.declared.mode.Mode.TheVariants.{Long}
use Rattle.tap_lawful.specs.Runs.{IsLawful, IsRunLog}
use Rattle.tap_shape.specs.Shape.{IsShape}
use Rattle.tap_shape.specs.Text.{IsTextOf, last_line}

-- The log of each run of a scenario, carried or not, is a shape, however far the run has come and however it has ended; and so is each lawful
-- log. So its long text is a text of this log, and so is that with the line which the program writes after a run that was refused memory.
pub record LogsAreShapes : Type 0 where
  pub runs : (s : ScenarioValue) (log : List Record) → IsScript s → IsRunLog s log → IsShape log
  pub lawful : (log : List Record) → IsLawful log → IsShape log
  pub texts : (log : List Record) → IsLawful log → IsTextOf (text_of_log Long log) log × IsTextOf (text_of_log Long log ++ last_line) log
