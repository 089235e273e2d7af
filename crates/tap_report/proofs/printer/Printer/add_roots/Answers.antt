use Rattle.tap_report.proofs.PrintsLemmas.{◌⨾◌}
use Rattle.tap_report.proofs.printer.Printer.add_roots.Goals as goal

pub returns : goal.returns
returns g c =
    c.add_from.ensures ⨾ c.add.ensures ⨾ c.add_names.ensures
