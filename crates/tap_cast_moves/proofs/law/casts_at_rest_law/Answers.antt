use Rattle.tap_cast_moves.proofs.SoundCasts.{casts_at_rest}
use Rattle.tap_cast_moves.proofs.law.casts_at_rest_law.Goals as goal

pub returns : goal.returns
returns c = casts_at_rest
