use Rattle.tap_safety_moves.proofs.SoundMoves.{basis_keeps}
use Rattle.tap_safety_moves.proofs.law.basis_law.Goals as goal

pub returns : goal.returns
returns c = basis_keeps
