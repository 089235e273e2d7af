use Rattle.tap_lawful.proofs.UncarriedLogs.{uncarried_runs_reduce}
use Rattle.tap_lawful.proofs.law.uncarried_law.Goals as goal

pub returns : goal.returns
returns c = uncarried_runs_reduce
