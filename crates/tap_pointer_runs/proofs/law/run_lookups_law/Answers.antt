use Rattle.tap_pointer_runs.proofs.RunAnswers.{core_at}
use Rattle.tap_pointer_runs.proofs.law.run_lookups_law.Goals as goal

pub returns : goal.returns
returns c = core_at
