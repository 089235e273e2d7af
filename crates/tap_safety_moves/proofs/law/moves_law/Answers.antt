use Rattle.tap_safety_moves.proofs.SoundMoves.{move_keeps}
use Rattle.tap_safety_moves.proofs.law.moves_law.Goals as goal

pub returns : goal.returns
returns c = move_keeps
