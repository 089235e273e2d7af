use Rattle.tap_cast_moves.proofs.SoundCasts.{run_casts}
use Rattle.tap_cast_moves.proofs.law.cast_runs_law.Goals as goal

pub returns : goal.returns
returns c = run_casts
