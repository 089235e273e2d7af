use Rattle.tap_lawful.proofs.OneLog.{one_log_holds}
use Rattle.tap_lawful.proofs.law.one_log_law.Goals as goal

pub returns : goal.returns
returns c = one_log_holds
