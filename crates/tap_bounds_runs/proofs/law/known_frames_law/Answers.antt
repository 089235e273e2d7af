use Rattle.tap_bounds_runs.proofs.Few.{known_at, lawful_known}
use Rattle.tap_bounds_runs.proofs.law.known_frames_law.Goals as goal

pub returns-clause-runs : goal.returns-clause-runs
returns-clause-runs c = known_at

pub returns-clause-lawful : goal.returns-clause-lawful
returns-clause-lawful c = lawful_known
