use Rattle.tap_report.proofs.PrintsLemmas.{Prints-waits}
use Rattle.tap_report.proofs.printer.Printer.add.Goals as goal

pub returns-then-has_room : goal.returns-then-has_room
returns-then-has_room g c = Prints-waits c.push.ensures.text
