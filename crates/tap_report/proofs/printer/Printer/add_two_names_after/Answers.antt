use Rattle.tap_name.specs.Name.{text_of_name}
use Rattle.tap_report.proofs.PrintsLemmas.{◌⨾◌, Prints-then_two, Prints-waits}
use Rattle.tap_report.proofs.printer.Printer.add_two_names_after.Goals as goal

pub returns : goal.returns
returns g c =
    Prints-then_two c.args.link.now (text_of_name c.args.second.now)
    (c.make_room.ensures.prints ⨾ Prints-waits c.push_name_after.ensures.text) (Prints-waits c.push_name_after-2.ensures.text)
