use Rattle.tap_moves.proofs.MovesMade.{ack_keeps_sessions, heard_keeps_sessions, hello_keeps_sessions, outside_keeps_sessions, seek_keeps_sessions, tell_keeps_sessions}
use Rattle.tap_moves.proofs.law.deliveries_keep_sessions.Goals as goal

pub returns-clause-tell : goal.returns-clause-tell
returns-clause-tell c = tell_keeps_sessions

pub returns-clause-heard : goal.returns-clause-heard
returns-clause-heard c = heard_keeps_sessions

pub returns-clause-ack : goal.returns-clause-ack
returns-clause-ack c = ack_keeps_sessions

pub returns-clause-hello : goal.returns-clause-hello
returns-clause-hello c = hello_keeps_sessions

pub returns-clause-seek : goal.returns-clause-seek
returns-clause-seek c = seek_keeps_sessions

pub returns-clause-outside : goal.returns-clause-outside
returns-clause-outside c = outside_keeps_sessions
