use Rattle.tap_bounds.proofs.Dones.{dones_at_rest, move_keeps_dones, run_dones_few}
use Rattle.tap_bounds.proofs.law.dones_law.Goals as goal

pub returns-clause-members : goal.returns-clause-members
returns-clause-members c = dones_at_rest

pub returns-clause-moves : goal.returns-clause-moves
returns-clause-moves c = move_keeps_dones

pub returns-clause-runs : goal.returns-clause-runs
returns-clause-runs c = run_dones_few
