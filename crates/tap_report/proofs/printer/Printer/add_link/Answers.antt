use Rattle.tap_report.proofs.PrintsLemmas.{◌⨾◌}
use Rattle.tap_report.proofs.printer.Printer.add_link.Goals as goal

pub returns : goal.returns
returns g c =
    c.add_number_after.ensures ⨾ c.add.ensures ⨾ c.add_digit.ensures ⨾ c.add_name_after.ensures ⨾ c.add-2.ensures
    ⨾ rw c.link_word.ensures at c.add-3.ensures ⨾ c.end_line.ensures
