use Rattle.tap_safe_runs.proofs.Lawful.{lawful_logs_are_safe}
use Rattle.tap_safe_runs.proofs.law.lawful_logs_law.Goals as goal

pub returns : goal.returns
returns c = lawful_logs_are_safe
