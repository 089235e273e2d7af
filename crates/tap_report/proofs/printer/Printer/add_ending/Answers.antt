use Rattle.std.proofs.Common.{rules}
use Rattle.tap_report.proofs.PrintsLemmas.{Prints-empty}
use Rattle.tap_report.proofs.printer.Printer.add_ending.Goals as goal

pub returns-in-Long : goal.returns-in-Long
returns-in-Long g c = Prints-empty (search rules)
