use Rattle.tap_safety.proofs.StepLaws.{seek_on_law, joiners_frame_law, seeking_frame_law, tells_frame_law, seeking_law, tells_law}
use Rattle.tap_safety.proofs.StepLaws.{seeking_done_law, seeking_known_law, seeking_seat_law, seeking_tell_law}
use Rattle.tap_safety.proofs.law.seeking_law.Goals as goal

pub returns-clause-seeking : goal.returns-clause-seeking
returns-clause-seeking c = seeking_law

pub returns-clause-tells : goal.returns-clause-tells
returns-clause-tells c = tells_law

pub returns-clause-frame : goal.returns-clause-frame
returns-clause-frame c = seeking_frame_law

pub returns-clause-tells_frame : goal.returns-clause-tells_frame
returns-clause-tells_frame c = tells_frame_law

pub returns-clause-joiners : goal.returns-clause-joiners
returns-clause-joiners c = joiners_frame_law

pub returns-clause-goes_on : goal.returns-clause-goes_on
returns-clause-goes_on c = seek_on_law

pub returns-clause-tell : goal.returns-clause-tell
returns-clause-tell c = seeking_tell_law

pub returns-clause-known : goal.returns-clause-known
returns-clause-known c = seeking_known_law

pub returns-clause-seat : goal.returns-clause-seat
returns-clause-seat c = seeking_seat_law

pub returns-clause-done : goal.returns-clause-done
returns-clause-done c = seeking_done_law
