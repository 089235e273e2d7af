use Rattle.tap_report.proofs.PrintsLemmas.{◌⨾◌}
use Rattle.tap_report.proofs.printer.Printer.add_asked.Goals as goal

pub returns : goal.returns
returns g c =
    c.add_u32_after.ensures ⨾ c.add_from.ensures
