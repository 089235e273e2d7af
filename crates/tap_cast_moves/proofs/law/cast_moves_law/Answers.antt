use Rattle.tap_cast_moves.proofs.SoundCasts.{move_keeps_casts}
use Rattle.tap_cast_moves.proofs.law.cast_moves_law.Goals as goal

pub returns : goal.returns
returns c = move_keeps_casts
