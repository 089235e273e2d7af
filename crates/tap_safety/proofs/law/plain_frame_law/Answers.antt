use Rattle.tap_safety.proofs.StepLaws.{plain_law, soft_plain_law}
use Rattle.tap_safety.proofs.law.plain_frame_law.Goals as goal

pub returns-clause-filled : goal.returns-clause-filled
returns-clause-filled c = plain_law

pub returns-clause-soft : goal.returns-clause-soft
returns-clause-soft c = soft_plain_law
