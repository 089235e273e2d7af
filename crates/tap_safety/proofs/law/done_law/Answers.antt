use Rattle.tap_safety.proofs.DoneLaws.{cover_law, hole_free_law, low_law}
use Rattle.tap_safety.proofs.StepLaws.{filled_done_law, soft_done_law}
use Rattle.tap_safety.proofs.law.done_law.Goals as goal

pub returns-clause-hole_free : goal.returns-clause-hole_free
returns-clause-hole_free c = hole_free_law

pub returns-clause-cover : goal.returns-clause-cover
returns-clause-cover c = cover_law

pub returns-clause-low : goal.returns-clause-low
returns-clause-low c = low_law

pub returns-clause-filled : goal.returns-clause-filled
returns-clause-filled c = filled_done_law

pub returns-clause-soft : goal.returns-clause-soft
returns-clause-soft c = soft_done_law
