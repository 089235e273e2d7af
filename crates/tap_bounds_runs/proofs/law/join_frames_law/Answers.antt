use Rattle.tap_bounds_runs.proofs.JoinLogs.{joins_at, lawful_joins}
use Rattle.tap_bounds_runs.proofs.Sum.{run_joins_send_few}
use Rattle.tap_bounds_runs.proofs.law.join_frames_law.Goals as goal

pub returns-clause-moves : goal.returns-clause-moves
returns-clause-moves c = run_joins_send_few

pub returns-clause-runs : goal.returns-clause-runs
returns-clause-runs c = joins_at

pub returns-clause-lawful : goal.returns-clause-lawful
returns-clause-lawful c = lawful_joins
