use Rattle.tap_safe_runs.proofs.Moments.{walks_end_at}
use Rattle.tap_safe_runs.proofs.law.run_walks_law.Goals as goal

pub returns : goal.returns
returns c = walks_end_at
