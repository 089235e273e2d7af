use Rattle.tap_log.proofs.MoreRecords.{more_records_hold}
use Rattle.tap_log.proofs.law.more_records.Goals as goal

pub returns : goal.returns
returns c = more_records_hold
