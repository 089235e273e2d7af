use Rattle.tap_make.proofs.Limits.{made_well}
use Rattle.tap_make.proofs.law.made_law.Goals as goal

pub returns : goal.returns
returns c = λ joins seed some few. made_well joins seed few
