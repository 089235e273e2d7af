use Rattle.tap_pointer_runs.proofs.Runs.{stand_at}
use Rattle.tap_pointer_runs.proofs.law.run_pointers_law.Goals as goal

pub returns : goal.returns
returns c = stand_at
