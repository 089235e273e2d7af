use Rattle.tap_safe_runs.proofs.Each.{groups_are_right}
use Rattle.tap_safe_runs.proofs.law.each_group_law.Goals as goal

pub returns : goal.returns
returns c = groups_are_right
