use Rattle.tap_pointer_moves.proofs.PointersKept.{pointers_at_rest}
use Rattle.tap_pointer_moves.proofs.law.members_have_no_pointers.Goals as goal

pub returns : goal.returns
returns c = pointers_at_rest
