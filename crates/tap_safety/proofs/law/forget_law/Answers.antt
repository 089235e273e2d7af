use Rattle.tap_safety.proofs.StepLaws.{forget_filled_law, soft_forget_law}
use Rattle.tap_safety.proofs.law.forget_law.Goals as goal

pub returns-clause-filled : goal.returns-clause-filled
returns-clause-filled c = forget_filled_law

pub returns-clause-soft : goal.returns-clause-soft
returns-clause-soft c = soft_forget_law
