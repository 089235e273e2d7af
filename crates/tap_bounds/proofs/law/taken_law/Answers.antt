use Rattle.tap_bounds.proofs.KnownTaken.{heards_by_hellos, known_at_rest, move_keeps_known, run_knows_all}
use Rattle.tap_bounds.proofs.law.taken_law.Goals as goal

pub returns-clause-members : goal.returns-clause-members
returns-clause-members c = known_at_rest

pub returns-clause-moves : goal.returns-clause-moves
returns-clause-moves c = move_keeps_known

pub returns-clause-runs : goal.returns-clause-runs
returns-clause-runs c = run_knows_all

pub returns-clause-heards : goal.returns-clause-heards
returns-clause-heards c = heards_by_hellos
