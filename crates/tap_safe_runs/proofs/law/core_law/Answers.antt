use Rattle.tap_safe_runs.proofs.Moments.{core_nodes_at}
use Rattle.tap_safe_runs.proofs.law.core_law.Goals as goal

pub returns : goal.returns
returns c = core_nodes_at
