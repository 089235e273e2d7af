use Rattle.tap_lawful.proofs.Runs.{runs_by_carrier}
use Rattle.tap_lawful.proofs.law.runs_law.Goals as goal

pub returns : goal.returns
returns c = runs_by_carrier
