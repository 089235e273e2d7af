use Rattle.tap_report.proofs.PrintsLemmas.{Waits-then}
use Rattle.tap_report.proofs.printer.Printer.push_name_after.Goals as goal

pub returns-clause-text : goal.returns-clause-text
returns-clause-text c = Waits-then c.push.ensures.text c.push_name.ensures.text
