use Rattle.tap_history.proofs.Ends.{log_in_groups_holds}
use Rattle.tap_history.proofs.law.log_in_groups.Goals as goal

pub returns : goal.returns
returns c = log_in_groups_holds
