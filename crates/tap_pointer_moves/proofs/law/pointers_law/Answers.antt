use Rattle.tap_pointer_moves.proofs.PointersKept.{pointers_kept}
use Rattle.tap_pointer_moves.proofs.law.pointers_law.Goals as goal

pub returns : goal.returns
returns c = pointers_kept
