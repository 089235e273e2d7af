use Rattle.tap_report.proofs.ReportsLemmas.{puts_write_the_text_of_logs}
use Rattle.tap_report.proofs.reporter.puts_write_the_text.Goals as goal

pub returns : goal.returns
returns c = puts_write_the_text_of_logs
