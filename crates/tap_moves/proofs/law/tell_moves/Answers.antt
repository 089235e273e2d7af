use Rattle.tap_moves.proofs.Made.{known_tell_is_made, new_tell_is_made}
use Rattle.tap_moves.proofs.law.tell_moves.Goals as goal

pub returns-clause-known : goal.returns-clause-known
returns-clause-known c = known_tell_is_made

pub returns-clause-anew : goal.returns-clause-anew
returns-clause-anew c = new_tell_is_made
