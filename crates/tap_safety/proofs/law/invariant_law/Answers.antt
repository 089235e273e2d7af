use Rattle.tap_safety.proofs.StepLaws.{gives_before_law, gives_quiet_law, gives_seat_law, gives_tell_law}
use Rattle.tap_safety.proofs.law.invariant_law.Goals as goal

pub returns-clause-tell : goal.returns-clause-tell
returns-clause-tell c = gives_tell_law

pub returns-clause-quiet : goal.returns-clause-quiet
returns-clause-quiet c = gives_quiet_law

pub returns-clause-before : goal.returns-clause-before
returns-clause-before c = gives_before_law

pub returns-clause-seat : goal.returns-clause-seat
returns-clause-seat c = gives_seat_law
