use Rattle.std.proofs.Common.{codes}
use Rattle.tap_name.specs.Name.{text_of_name}
use Rattle.tap_report.proofs.PrintsLemmas.{◌⨾◌, Prints-then_two}
use Rattle.tap_report.proofs.printer.Printer.add_cast_words.Goals as goal

pub returns : goal.returns
returns g c =
    Prints-then_two (codes " ") (text_of_name c.args.asker.now)
    (c.add.ensures ⨾ rw c.as_slice.ensures.value at c.add-2.ensures ⨾ c.add-3.ensures ⨾ rw c.as_bytes.ensures.value at c.add-4.ensures
    ⨾ c.add-5.ensures ⨾ c.add_prefix.ensures ⨾ c.add-6.ensures ⨾ rw c.as_bytes-2.ensures.value at c.add-7.ensures)
    c.add_name_after.ensures
