use Rattle.tap_bounds.proofs.FewSent.{move_keeps_few}
use Rattle.tap_bounds.proofs.law.few_moves_law.Goals as goal

pub returns : goal.returns
returns c = move_keeps_few
