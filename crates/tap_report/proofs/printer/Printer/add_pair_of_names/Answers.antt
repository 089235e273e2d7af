use Rattle.std.proofs.Common.{codes}
use Rattle.tap_name.specs.Name.{text_of_name}
use Rattle.tap_report.proofs.PrintsLemmas.{◌⨾◌, Prints-then_two}
use Rattle.tap_report.proofs.printer.Printer.add_pair_of_names.Goals as goal

pub returns : goal.returns
returns g c =
    Prints-then_two (codes " ") (text_of_name c.args.second.now)
    (c.add_name_after.ensures ⨾ c.add.ensures ⨾ rw c.as_bytes.ensures.value at c.add-2.ensures) c.add_name_after-2.ensures
