use Rattle.tap_cast_moves.proofs.SoundCasts.{casts_quietly, rest_closes}
use Rattle.tap_cast_moves.proofs.law.quiet_casts_law.Goals as goal

pub returns-clause-departing : goal.returns-clause-departing
returns-clause-departing c = casts_quietly

pub returns-clause-rest : goal.returns-clause-rest
returns-clause-rest c = rest_closes
