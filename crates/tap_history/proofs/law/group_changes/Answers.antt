use Rattle.tap_history.proofs.Telling.{group_changes_holds}
use Rattle.tap_history.proofs.law.group_changes.Goals as goal

pub returns : goal.returns
returns c = group_changes_holds
