use Rattle.tap_report.proofs.PrintsLemmas.{◌⨾◌, Prints-none}
use Rattle.tap_report.proofs.printer.Printer.add_words_after.Goals as goal

pub returns-in-Nothing : goal.returns-in-Nothing
returns-in-Nothing g c = rw c.in-Nothing.is (Prints-none _ _)

pub returns-in-WordAndNumber : goal.returns-in-WordAndNumber
returns-in-WordAndNumber g c =
    rw c.in-WordAndNumber.is (c.add_word-in-WordAndNumber.ensures ⨾ c.add.ensures ⨾ c.add_number.ensures)

pub returns-in-ThreeNumbers : goal.returns-in-ThreeNumbers
returns-in-ThreeNumbers g c =
    rw c.in-ThreeNumbers.is
    (c.add_two_numbers_after-in-ThreeNumbers.ensures ⨾ c.add-in-ThreeNumbers.ensures ⨾ c.add_number-in-ThreeNumbers.ensures)
