use Rattle.tap_carried.proofs.ReducedLogs.{logs_agree}
use Rattle.tap_carried.proofs.law.agreement_law.Goals as goal

pub returns : goal.returns
returns c = logs_agree
