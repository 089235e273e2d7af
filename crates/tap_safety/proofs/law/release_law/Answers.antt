use Rattle.tap_safety.proofs.StepLaws.{release_filled_law, soft_release_law}
use Rattle.tap_safety.proofs.law.release_law.Goals as goal

pub returns-clause-filled : goal.returns-clause-filled
returns-clause-filled c = release_filled_law

pub returns-clause-soft : goal.returns-clause-soft
returns-clause-soft c = soft_release_law
