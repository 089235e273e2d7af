use Rattle.tap_lawful.proofs.CarriedOneLog.{one_carried_log_holds}
use Rattle.tap_lawful.proofs.law.one_carried_log_law.Goals as goal

pub returns : goal.returns
returns c = one_carried_log_holds
