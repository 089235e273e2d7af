use Rattle.tap_pointer_moves.proofs.Paths.{pointers_on_paths}
use Rattle.tap_pointer_moves.proofs.law.paths_law.Goals as goal

pub returns : goal.returns
returns c = pointers_on_paths
