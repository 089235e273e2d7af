use Rattle.tap_report.proofs.PrintsLemmas.{◌⨾◌, Prints-waits, Waits-then}
use Rattle.tap_report.proofs.printer.Printer.add_u32_after.Goals as goal

pub returns : goal.returns
returns g c = c.make_room.ensures.prints ⨾ Prints-waits (Waits-then c.push.ensures.text c.push_u32.ensures.text)
