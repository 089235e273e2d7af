use Rattle.tap_report.proofs.PrintsLemmas.{Waits-then}
use Rattle.tap_report.proofs.printer.Printer.push_two_names.Goals as goal

pub returns-clause-text : goal.returns-clause-text
returns-clause-text c =
    let first = Waits-then c.push.ensures.text c.push_digits.ensures.text in
    let second = Waits-then c.push-2.ensures.text c.push_digits-2.ensures.text in
    Waits-then first second
