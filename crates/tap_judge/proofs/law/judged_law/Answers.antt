use Rattle.tap_judge.proofs.Causes.{one_is_said}
use Rattle.tap_judge.proofs.law.judged_law.Goals as goal

pub returns : goal.returns
returns c = one_is_said
