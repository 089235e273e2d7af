use Rattle.tap_carried.proofs.ReducedRuns.{runs_reduce}
use Rattle.tap_carried.proofs.law.reduction_law.Goals as goal

pub returns : goal.returns
returns c = runs_reduce
