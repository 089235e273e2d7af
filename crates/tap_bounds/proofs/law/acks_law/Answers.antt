use Rattle.tap_bounds.proofs.AckMoves.{acks_at_rest, move_keeps_acks, run_acks_few}
use Rattle.tap_bounds.proofs.law.acks_law.Goals as goal

pub returns-clause-members : goal.returns-clause-members
returns-clause-members c = acks_at_rest

pub returns-clause-moves : goal.returns-clause-moves
returns-clause-moves c = move_keeps_acks

pub returns-clause-runs : goal.returns-clause-runs
returns-clause-runs c = run_acks_few
