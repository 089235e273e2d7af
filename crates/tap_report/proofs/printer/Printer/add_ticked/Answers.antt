use Rattle.tap_report.proofs.PrintsLemmas.{◌⨾◌}
use Rattle.tap_report.proofs.printer.Printer.add_ticked.Goals as goal

pub returns : goal.returns
returns g c = c.add.ensures ⨾ c.end_line.ensures
