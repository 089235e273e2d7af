use Rattle.tap_log.proofs.MoreRecords.{one_more_record_holds}
use Rattle.tap_log.proofs.law.one_more_record.Goals as goal

pub returns : goal.returns
returns c = one_more_record_holds
