use Rattle.tap_report.proofs.PrintsLemmas.{◌⨾◌}
use Rattle.tap_report.proofs.printer.Printer.add_refused.Goals as goal

pub returns : goal.returns
returns g c =
    c.add_number_after.ensures ⨾ rw c.code_of.ensures at c.add_number_after-2.ensures ⨾ c.add.ensures ⨾ c.add_words.ensures
