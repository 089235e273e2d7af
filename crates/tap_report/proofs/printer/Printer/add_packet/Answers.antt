use Rattle.tap_report.proofs.PrintsLemmas.{◌⨾◌, Prints-waits, Waits-then}
use Rattle.tap_report.proofs.printer.Printer.add_packet.Goals as goal

pub returns : goal.returns
returns g c =
    let number = Waits-then c.push.ensures.text c.push_u32.ensures.text in
    let frame = Waits-then c.push_packet_word.ensures.text c.push_u32-2.ensures.text in
    c.make_room.ensures.prints ⨾ Prints-waits (Waits-then (Waits-then number frame) c.push-2.ensures.text)
