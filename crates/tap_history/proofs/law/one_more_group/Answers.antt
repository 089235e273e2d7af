use Rattle.tap_history.proofs.OneMoreGroup.{one_more_group_holds}
use Rattle.tap_history.proofs.law.one_more_group.Goals as goal

pub returns : goal.returns
returns c = one_more_group_holds
