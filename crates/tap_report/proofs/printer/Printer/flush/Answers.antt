use Rattle.tap_report.proofs.PrintsLemmas.{Prints-flush}
use Rattle.tap_report.proofs.printer.Printer.flush.Goals as goal

pub returns-clause-prints : goal.returns-clause-prints
returns-clause-prints g c = rw (← c.self.view_is) (Prints-flush _ c.write_text-written.ensures)
