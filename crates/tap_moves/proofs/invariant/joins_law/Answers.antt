use Rattle.tap_moves.proofs.LeavesJoins.{joins_done_law, joins_others_law}
use Rattle.tap_moves.proofs.invariant.joins_law.Goals as goal

pub returns-clause-others : goal.returns-clause-others
returns-clause-others c = joins_others_law

pub returns-clause-done : goal.returns-clause-done
returns-clause-done c = joins_done_law
