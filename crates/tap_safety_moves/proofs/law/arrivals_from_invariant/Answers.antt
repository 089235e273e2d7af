use Rattle.tap_safety_moves.proofs.Arrivals.{others_have_rules, taken_where_due}
use Rattle.tap_safety_moves.proofs.NotStrange.{others_are_delivered, strange_exactly}
use Rattle.tap_safety_moves.proofs.law.arrivals_from_invariant.Goals as goal

pub returns-clause-strange : goal.returns-clause-strange
returns-clause-strange c = strange_exactly

pub returns-clause-delivered : goal.returns-clause-delivered
returns-clause-delivered c = others_are_delivered

pub returns-clause-rules : goal.returns-clause-rules
returns-clause-rules c = others_have_rules

pub returns-clause-taken : goal.returns-clause-taken
returns-clause-taken c = taken_where_due
