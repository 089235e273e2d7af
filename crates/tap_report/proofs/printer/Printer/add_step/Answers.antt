use Rattle.tap_report.proofs.PrintsLemmas.{◌⨾◌, Prints-waits, Waits-then}
use Rattle.tap_report.proofs.printer.Printer.add_step.Goals as goal

pub returns : goal.returns
returns g c =
    let number = Waits-then c.push.ensures.text c.push_u32.ensures.text in
    c.make_room.ensures.prints ⨾ Prints-waits (Waits-then number c.push-2.ensures.text) ⨾ c.add_step_text.ensures ⨾ c.end_line.ensures
