use Rattle.tap_safety_moves.proofs.Arrivals.{ack_answers, heard_answers}
use Rattle.tap_safety_moves.proofs.law.answers_from_invariant.Goals as goal

pub returns-clause-heard : goal.returns-clause-heard
returns-clause-heard c = heard_answers

pub returns-clause-ack : goal.returns-clause-ack
returns-clause-ack c = ack_answers
