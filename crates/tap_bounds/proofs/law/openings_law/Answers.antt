use Rattle.tap_bounds.proofs.Openings.{few_are_opened, move_keeps_opened, opened_at_rest, run_opens_few}
use Rattle.tap_bounds.proofs.law.openings_law.Goals as goal

pub returns-clause-members : goal.returns-clause-members
returns-clause-members c = opened_at_rest

pub returns-clause-moves : goal.returns-clause-moves
returns-clause-moves c = move_keeps_opened

pub returns-clause-runs : goal.returns-clause-runs
returns-clause-runs c = run_opens_few

pub returns-clause-most : goal.returns-clause-most
returns-clause-most c = few_are_opened
