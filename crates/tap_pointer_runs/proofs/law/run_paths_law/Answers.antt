use Rattle.tap_pointer_runs.proofs.Runs.{on_paths_at}
use Rattle.tap_pointer_runs.proofs.law.run_paths_law.Goals as goal

pub returns : goal.returns
returns c = on_paths_at
