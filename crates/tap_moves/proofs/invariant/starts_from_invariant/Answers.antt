use Rattle.tap_moves.proofs.Starts.{start_ended, start_stamped}
use Rattle.tap_moves.proofs.invariant.starts_from_invariant.Goals as goal

pub returns-clause-ended : goal.returns-clause-ended
returns-clause-ended c = start_ended

pub returns-clause-stamped : goal.returns-clause-stamped
returns-clause-stamped c = start_stamped
