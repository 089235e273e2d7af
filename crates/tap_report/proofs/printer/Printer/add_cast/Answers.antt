use Rattle.tap_report.proofs.PrintsLemmas.{◌⨾◌}
use Rattle.tap_report.proofs.printer.Printer.add_cast.Goals as goal

pub returns : goal.returns
returns g c =
    c.add_number_after.ensures ⨾ c.add.ensures ⨾ c.add-2.ensures ⨾ c.add_number_after-2.ensures ⨾ c.add_name_after.ensures
