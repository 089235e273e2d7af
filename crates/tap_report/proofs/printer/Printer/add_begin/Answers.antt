use Rattle.tap_report.proofs.PrintsLemmas.{◌⨾◌}
use Rattle.tap_report.proofs.printer.Printer.add_begin.Goals as goal

pub returns : goal.returns
returns g c =
    rw c.base.ensures.value at c.add_number_after.ensures ⨾ rw c.digits.ensures.value at c.add_number_after-2.ensures
    ⨾ rw c.width.ensures.value at c.add_number_after-3.ensures ⨾ c.add_number_after-4.ensures
