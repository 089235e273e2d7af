use Rattle.tap_bounds.proofs.FewSent.{few_at_rest}
use Rattle.tap_bounds.proofs.law.few_at_rest_law.Goals as goal

pub returns : goal.returns
returns c = few_at_rest
