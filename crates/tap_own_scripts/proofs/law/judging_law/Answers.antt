use Rattle.tap_own_scripts.proofs.Judging.{judges_hold}
use Rattle.tap_own_scripts.proofs.law.judging_law.Goals as goal

pub returns : goal.returns
returns c = judges_hold
