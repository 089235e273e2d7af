use Rattle.std.proofs.Common.{rules}
use Rattle.tap_report.proofs.PrintsLemmas.{Prints-empty}
use Rattle.tap_report.proofs.printer.Printer.add_members_in.Goals as goal

pub returns-in-Brief : goal.returns-in-Brief
returns-in-Brief g c = Prints-empty (search rules)
