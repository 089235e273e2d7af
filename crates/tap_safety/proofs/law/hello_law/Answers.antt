use Rattle.tap_safety.proofs.StepLaws.{hello_filled_law, soft_hello_law}
use Rattle.tap_safety.proofs.law.hello_law.Goals as goal

pub returns-clause-filled : goal.returns-clause-filled
returns-clause-filled c = hello_filled_law

pub returns-clause-soft : goal.returns-clause-soft
returns-clause-soft c = soft_hello_law
