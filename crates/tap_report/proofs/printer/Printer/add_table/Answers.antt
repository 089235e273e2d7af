use Rattle.tap_report.proofs.PrintsLemmas.{◌⨾◌}
use Rattle.tap_report.proofs.printer.Printer.add_table.Goals as goal

pub returns : goal.returns
returns g c =
    c.add_name_after.ensures ⨾ c.add.ensures ⨾ rw c.node_word.ensures at c.add-2.ensures ⨾ c.add_number_after.ensures
