use Rattle.tap_cast_runs.proofs.Runs.{lawful_watches}
use Rattle.tap_cast_runs.proofs.law.lawful_watches_law.Goals as goal

pub returns : goal.returns
returns c = lawful_watches
