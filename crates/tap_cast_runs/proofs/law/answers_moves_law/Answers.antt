use Rattle.tap_cast_runs.proofs.WatchesKept.{move_keeps_watches}
use Rattle.tap_cast_runs.proofs.law.answers_moves_law.Goals as goal

pub returns : goal.returns
returns c = move_keeps_watches
