use Rattle.tap_pointer_runs.proofs.Runs.{known_at}
use Rattle.tap_pointer_runs.proofs.law.known_pairs_law.Goals as goal

pub returns : goal.returns
returns c = known_at
