use Rattle.tap_lawful.proofs.CarriedReduction.{carried_runs_reduce}
use Rattle.tap_lawful.proofs.law.carried_law.Goals as goal

pub returns : goal.returns
returns c = carried_runs_reduce
