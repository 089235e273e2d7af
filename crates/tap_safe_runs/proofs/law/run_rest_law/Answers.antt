use Rattle.tap_safe_runs.proofs.Moments.{all_core_at}
use Rattle.tap_safe_runs.proofs.law.run_rest_law.Goals as goal

pub returns : goal.returns
returns c = all_core_at
