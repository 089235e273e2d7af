use Rattle.tap_safe_runs.proofs.SafeLogs.{ended_logs_are_safe}
use Rattle.tap_safe_runs.proofs.law.ended_logs_law.Goals as goal

pub returns : goal.returns
returns c = ended_logs_are_safe
