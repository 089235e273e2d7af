use Rattle.tap_safe_runs.proofs.Safe.{runs_grow}
use Rattle.tap_safe_runs.proofs.law.growing_runs_law.Goals as goal

pub returns : goal.returns
returns c = runs_grow
