use Rattle.tap_report.proofs.PrintsLemmas.{◌⨾◌}
use Rattle.tap_report.proofs.printer.Printer.add_garbled.Goals as goal

pub returns : goal.returns
returns g c =
    c.add_number_after.ensures ⨾ c.add.ensures ⨾ c.add_fault.ensures
