use Rattle.tap_report.proofs.PrintsLemmas.{◌⨾◌}
use Rattle.tap_report.proofs.printer.Printer.add_two_numbers_after.Goals as goal

pub returns : goal.returns
returns g c =
    c.add.ensures ⨾ c.add_number.ensures ⨾ c.add-2.ensures ⨾ c.add_number-2.ensures
