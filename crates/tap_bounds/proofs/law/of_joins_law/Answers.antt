use Rattle.tap_bounds.proofs.OfJoins.{run_sent_are_of_joins}
use Rattle.tap_bounds.proofs.law.of_joins_law.Goals as goal

pub returns : goal.returns
returns c = run_sent_are_of_joins
