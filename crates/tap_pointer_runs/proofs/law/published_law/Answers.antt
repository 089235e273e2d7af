use Rattle.tap_pointer_runs.proofs.Runs.{served_at}
use Rattle.tap_pointer_runs.proofs.law.published_law.Goals as goal

pub returns : goal.returns
returns c = served_at
