use Rattle.tap_cast_runs.proofs.WatchesKept.{watches_at_rest}
use Rattle.tap_cast_runs.proofs.law.answers_at_rest_law.Goals as goal

pub returns : goal.returns
returns c = watches_at_rest
