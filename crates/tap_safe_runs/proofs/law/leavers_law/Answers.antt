use Rattle.tap_safe_runs.proofs.Leavers.{leavers_at}
use Rattle.tap_safe_runs.proofs.law.leavers_law.Goals as goal

pub returns : goal.returns
returns c = leavers_at
