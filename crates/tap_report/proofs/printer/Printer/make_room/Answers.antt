use Rattle.tap_report.proofs.PrintsLemmas.{Prints-none}
use Rattle.tap_report.proofs.printer.Printer.make_room.Goals as goal

pub returns-else-not-has_room-clause-prints : goal.returns-else-not-has_room-clause-prints
returns-else-not-has_room-clause-prints g c = Prints-none _ _
