use Rattle.tap_bounds_runs.proofs.Few.{few_at, lawful_few}
use Rattle.tap_bounds_runs.proofs.law.few_frames_law.Goals as goal

pub returns-clause-runs : goal.returns-clause-runs
returns-clause-runs c = few_at

pub returns-clause-lawful : goal.returns-clause-lawful
returns-clause-lawful c = lawful_few
