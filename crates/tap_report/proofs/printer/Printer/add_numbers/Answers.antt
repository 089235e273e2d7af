use Rattle.tap_report.proofs.PrintsLemmas.{◌⨾◌}
use Rattle.tap_report.proofs.printer.Printer.add_numbers.Goals as goal

pub returns : goal.returns
returns g c =
    rw c.nodes_left.ensures at c.add_count.ensures ⨾ c.add_count-2.ensures ⨾ c.add_count-3.ensures ⨾ c.add_count-4.ensures
