use Rattle.tap_safe_runs.proofs.Moments.{no_hole_at}
use Rattle.tap_safe_runs.proofs.law.hole_free_law.Goals as goal

pub returns : goal.returns
returns c = no_hole_at
