use Rattle.tap_moves.proofs.PinsRule.{pins_stay}
use Rattle.tap_moves.proofs.invariant.pins_law.Goals as goal

pub returns : goal.returns
returns c = pins_stay
