use Rattle.tap_safety_moves.proofs.Consequences.{ack_awaited, heard_awaited, none_is_strange}
use Rattle.tap_safety_moves.proofs.law.arrivals_law.Goals as goal

pub returns-clause-strange : goal.returns-clause-strange
returns-clause-strange c = none_is_strange

pub returns-clause-heard : goal.returns-clause-heard
returns-clause-heard c = heard_awaited

pub returns-clause-ack : goal.returns-clause-ack
returns-clause-ack c = ack_awaited
