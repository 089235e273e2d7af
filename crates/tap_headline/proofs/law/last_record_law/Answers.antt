use Rattle.tap_headline.proofs.LastRecord.{logs_end_so}
use Rattle.tap_headline.proofs.law.last_record_law.Goals as goal

pub returns : goal.returns
returns c = logs_end_so
