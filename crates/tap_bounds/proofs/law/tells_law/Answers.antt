use Rattle.tap_bounds.proofs.TellMoves.{move_keeps_tells, run_tells_few, tells_at_rest}
use Rattle.tap_bounds.proofs.law.tells_law.Goals as goal

pub returns-clause-members : goal.returns-clause-members
returns-clause-members c = tells_at_rest

pub returns-clause-moves : goal.returns-clause-moves
returns-clause-moves c = move_keeps_tells

pub returns-clause-runs : goal.returns-clause-runs
returns-clause-runs c = run_tells_few
