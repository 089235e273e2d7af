use Rattle.tap_moves.proofs.Made.{done_is_made}
use Rattle.tap_moves.proofs.law.done_moves.Goals as goal

pub returns : goal.returns
returns c = done_is_made
