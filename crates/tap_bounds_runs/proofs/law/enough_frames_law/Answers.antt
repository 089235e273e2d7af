use Rattle.tap_bounds_runs.proofs.CarriedEnough.{runs_are_never_spent, runs_end_finished}
use Rattle.tap_bounds_runs.proofs.Enough.{ends_finished, never_spent}
use Rattle.tap_bounds_runs.proofs.law.enough_frames_law.Goals as goal

pub returns-clause-spent : goal.returns-clause-spent
returns-clause-spent c = never_spent

pub returns-clause-finished : goal.returns-clause-finished
returns-clause-finished c = ends_finished

pub returns-clause-runs : goal.returns-clause-runs
returns-clause-runs c = runs_are_never_spent

pub returns-clause-whole : goal.returns-clause-whole
returns-clause-whole c = runs_end_finished
