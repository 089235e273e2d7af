use Rattle.tap_moves.proofs.InSession.{ceased_answers, seek_opens, tell_in_session}
use Rattle.tap_moves.proofs.SessionsMade.{hands_on, opens_child, opens_root}
use Rattle.tap_moves.proofs.OutsideMade.{hello_hands_on, outside_leaves}
use Rattle.tap_moves.proofs.AnswersMade.{ack_closes_child, ack_closes_root, ack_hands_on, ack_keeps_exact, heard_closes_child, heard_closes_root, heard_hands_on, heard_keeps_exact}
use Rattle.tap_moves.proofs.law.sessions_move.Goals as goal

pub returns-clause-tell : goal.returns-clause-tell
returns-clause-tell c = tell_in_session

pub returns-clause-ceased : goal.returns-clause-ceased
returns-clause-ceased c = ceased_answers

pub returns-clause-seek : goal.returns-clause-seek
returns-clause-seek c = seek_opens

pub returns-clause-child : goal.returns-clause-child
returns-clause-child c = opens_child

pub returns-clause-at_once : goal.returns-clause-at_once
returns-clause-at_once c = hands_on

pub returns-clause-root : goal.returns-clause-root
returns-clause-root c = opens_root

pub returns-clause-heard : goal.returns-clause-heard
returns-clause-heard c = heard_hands_on

pub returns-clause-ack : goal.returns-clause-ack
returns-clause-ack c = ack_hands_on

pub returns-clause-heard_root : goal.returns-clause-heard_root
returns-clause-heard_root c = heard_closes_root

pub returns-clause-ack_root : goal.returns-clause-ack_root
returns-clause-ack_root c = ack_closes_root

pub returns-clause-heard_child : goal.returns-clause-heard_child
returns-clause-heard_child c = heard_closes_child

pub returns-clause-ack_child : goal.returns-clause-ack_child
returns-clause-ack_child c = ack_closes_child

pub returns-clause-heard_exact : goal.returns-clause-heard_exact
returns-clause-heard_exact c = heard_keeps_exact

pub returns-clause-ack_exact : goal.returns-clause-ack_exact
returns-clause-ack_exact c = ack_keeps_exact

pub returns-clause-hello : goal.returns-clause-hello
returns-clause-hello c = hello_hands_on

pub returns-clause-outside : goal.returns-clause-outside
returns-clause-outside c = outside_leaves
