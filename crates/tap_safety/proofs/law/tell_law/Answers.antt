use Rattle.tap_safety.proofs.TellLaws.{cover_law, covered_law, hole_free_law, known_law, low_law, meet_law}
use Rattle.tap_safety.proofs.StepLaws.{filled_known_law, filled_tell_law, soft_known_law, soft_tell_law}
use Rattle.tap_safety.proofs.law.tell_law.Goals as goal

pub returns-clause-cover : goal.returns-clause-cover
returns-clause-cover c = cover_law

pub returns-clause-covered : goal.returns-clause-covered
returns-clause-covered c = covered_law

pub returns-clause-meet : goal.returns-clause-meet
returns-clause-meet c = meet_law

pub returns-clause-low : goal.returns-clause-low
returns-clause-low c = low_law

pub returns-clause-hole_free : goal.returns-clause-hole_free
returns-clause-hole_free c = hole_free_law

pub returns-clause-known : goal.returns-clause-known
returns-clause-known c = known_law

pub returns-clause-soft : goal.returns-clause-soft
returns-clause-soft c = soft_tell_law

pub returns-clause-known_soft : goal.returns-clause-known_soft
returns-clause-known_soft c = soft_known_law

pub returns-clause-filled : goal.returns-clause-filled
returns-clause-filled c = filled_tell_law

pub returns-clause-known_filled : goal.returns-clause-known_filled
returns-clause-known_filled c = filled_known_law
