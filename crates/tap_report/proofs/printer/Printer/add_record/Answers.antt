use Rattle.tap_report.proofs.PrintsLemmas.{Prints-none}
use Rattle.tap_report.proofs.printer.Printer.add_record.Goals as goal

pub returns-in-Summary : goal.returns-in-Summary
returns-in-Summary g c = rw c.in-Summary.is (Prints-none _ _)
