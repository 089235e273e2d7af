use Rattle.tap_bounds.proofs.HelloMoves.{few_are_once, hellos_at_rest, move_keeps_hellos, run_hellos_few}
use Rattle.tap_bounds.proofs.law.hellos_law.Goals as goal

pub returns-clause-members : goal.returns-clause-members
returns-clause-members c = hellos_at_rest

pub returns-clause-moves : goal.returns-clause-moves
returns-clause-moves c = move_keeps_hellos

pub returns-clause-runs : goal.returns-clause-runs
returns-clause-runs c = run_hellos_few

pub returns-clause-once : goal.returns-clause-once
returns-clause-once c = few_are_once
