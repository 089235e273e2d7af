use Rattle.tap_moves.proofs.MovesMade.{ceased_tell_keeps, delivery_is_by_rule, done_keeps, forget_keeps, hello_keeps, joining_tell_keeps, known_tell_keeps, link_keeps, plain_keeps, release_keeps, seek_keeps, tell_keeps}
use Rattle.tap_moves.proofs.law.deliveries_keep.Goals as goal

pub returns-clause-by_rule : goal.returns-clause-by_rule
returns-clause-by_rule c = delivery_is_by_rule

pub returns-clause-done : goal.returns-clause-done
returns-clause-done c = done_keeps

pub returns-clause-tell : goal.returns-clause-tell
returns-clause-tell c = tell_keeps

pub returns-clause-plain : goal.returns-clause-plain
returns-clause-plain c = plain_keeps

pub returns-clause-joining : goal.returns-clause-joining
returns-clause-joining c = joining_tell_keeps

pub returns-clause-ceased : goal.returns-clause-ceased
returns-clause-ceased c = ceased_tell_keeps

pub returns-clause-hello : goal.returns-clause-hello
returns-clause-hello c = hello_keeps

pub returns-clause-release : goal.returns-clause-release
returns-clause-release c = release_keeps

pub returns-clause-forget : goal.returns-clause-forget
returns-clause-forget c = forget_keeps

pub returns-clause-link : goal.returns-clause-link
returns-clause-link c = link_keeps

pub returns-clause-known_tell : goal.returns-clause-known_tell
returns-clause-known_tell c = known_tell_keeps

pub returns-clause-seek : goal.returns-clause-seek
returns-clause-seek c = seek_keeps
