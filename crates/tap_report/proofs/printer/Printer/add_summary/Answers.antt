use Rattle.std.proofs.Common.{rules}
use Rattle.tap_report.proofs.PrintsLemmas.{Prints-empty}
use Rattle.tap_report.proofs.printer.Printer.add_summary.Goals as goal

pub returns-else-is_some : goal.returns-else-is_some
returns-else-is_some g c = Prints-empty (search rules)
