use Rattle.tap_pointer_moves.proofs.PointersKept.{pointers_stand_in_runs}
use Rattle.tap_pointer_moves.proofs.law.runs_law.Goals as goal

pub returns : goal.returns
returns c = pointers_stand_in_runs
