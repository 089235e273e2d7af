use Rattle.tap_safety_moves.proofs.Consequences.{nothing_is_left}
use Rattle.tap_safety_moves.proofs.law.rest_law.Goals as goal

pub returns : goal.returns
returns c = nothing_is_left
