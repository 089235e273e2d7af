use Rattle.tap_moves.proofs.Plain.{giving_up_is_made, join_is_made, plain_is_made, quiet_start_is_made}
use Rattle.tap_moves.proofs.FramesMade.{ceased_tell_is_made, forget_is_made, hello_is_made, joining_tell_is_made, release_is_made}
use Rattle.tap_moves.proofs.law.frames_move.Goals as goal

pub returns-clause-plain : goal.returns-clause-plain
returns-clause-plain c = plain_is_made

pub returns-clause-ceased : goal.returns-clause-ceased
returns-clause-ceased c = ceased_tell_is_made

pub returns-clause-joining : goal.returns-clause-joining
returns-clause-joining c = joining_tell_is_made

pub returns-clause-hello : goal.returns-clause-hello
returns-clause-hello c = hello_is_made

pub returns-clause-release : goal.returns-clause-release
returns-clause-release c = release_is_made

pub returns-clause-forget : goal.returns-clause-forget
returns-clause-forget c = forget_is_made

pub returns-clause-starts : goal.returns-clause-starts
returns-clause-starts c = quiet_start_is_made

pub returns-clause-gives_up : goal.returns-clause-gives_up
returns-clause-gives_up c = giving_up_is_made

pub returns-clause-joins : goal.returns-clause-joins
returns-clause-joins c = join_is_made
