use Rattle.tap_safety.proofs.SeekLaws.{low_law}
use Rattle.tap_safety.proofs.StepLaws.{joiner_seat_law, soft_seat_law, filled_seat_law}
use Rattle.tap_safety.proofs.law.seek_law.Goals as goal

pub returns-clause-low : goal.returns-clause-low
returns-clause-low c = low_law

pub returns-clause-filled : goal.returns-clause-filled
returns-clause-filled c = filled_seat_law

pub returns-clause-joiner : goal.returns-clause-joiner
returns-clause-joiner c = joiner_seat_law

pub returns-clause-soft : goal.returns-clause-soft
returns-clause-soft c = soft_seat_law
