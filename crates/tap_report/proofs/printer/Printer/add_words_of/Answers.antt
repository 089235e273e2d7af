use Rattle.tap_report.proofs.PrintsLemmas.{◌⨾◌}
use Rattle.tap_report.proofs.printer.Printer.add_words_of.Goals as goal

pub returns : goal.returns
returns g c =
    rw (← c.words-words.ensures.value) (rw c.as_bytes.ensures.value at c.add.ensures ⨾ c.add_words_after.ensures)
