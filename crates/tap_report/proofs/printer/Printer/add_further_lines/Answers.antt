use Rattle.std.proofs.Common.{rules}
use Rattle.tap_report.proofs.PrintsLemmas.{Prints-empty}
use Rattle.tap_report.proofs.printer.Printer.add_further_lines.Goals as goal

pub returns-in_default : goal.returns-in_default
returns-in_default g c = Prints-empty (search rules)
