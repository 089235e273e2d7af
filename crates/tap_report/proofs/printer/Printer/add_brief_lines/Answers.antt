use Rattle.tap_report.proofs.PrintsLemmas.{◌⨾◌}
use Rattle.tap_report.proofs.printer.Printer.add_brief_lines.Goals as goal

pub returns : goal.returns
returns g c = c.add_brief_line.ensures ⨾ c.end_line.ensures ⨾ c.add_further_lines.ensures
