use Rattle.tap_report.proofs.PrintsLemmas.{◌⨾◌, Prints-waits}
use Rattle.tap_report.proofs.printer.Printer.add_name_after.Goals as goal

pub returns : goal.returns
returns g c = c.make_room.ensures.prints ⨾ Prints-waits c.push_name_after.ensures.text
