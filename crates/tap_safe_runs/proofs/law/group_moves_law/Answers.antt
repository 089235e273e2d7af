use Rattle.tap_safe_runs.proofs.Possible.{group_may_move}
use Rattle.tap_safe_runs.proofs.law.group_moves_law.Goals as goal

pub returns : goal.returns
returns c = group_may_move
