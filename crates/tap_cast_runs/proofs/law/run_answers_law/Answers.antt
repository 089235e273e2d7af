use Rattle.tap_cast_runs.proofs.WatchesKept.{run_watches}
use Rattle.tap_cast_runs.proofs.law.run_answers_law.Goals as goal

pub returns : goal.returns
returns c = run_watches
