use Rattle.tap_report.proofs.PrintsLemmas.{◌⨾◌}
use Rattle.tap_report.proofs.printer.Printer.add_word.Goals as goal

pub returns : goal.returns
returns g c =
    c.add.ensures ⨾ rw c.as_bytes.ensures.value at c.add-2.ensures
