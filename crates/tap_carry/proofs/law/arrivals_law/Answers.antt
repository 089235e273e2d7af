use Rattle.tap_carry.proofs.Arrivals.{first_is_true}
use Rattle.tap_carry.proofs.law.arrivals_law.Goals as goal

pub returns : goal.returns
returns c = first_is_true
