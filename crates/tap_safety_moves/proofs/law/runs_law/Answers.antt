use Rattle.tap_safety_moves.proofs.SoundMoves.{run_is_sound}
use Rattle.tap_safety_moves.proofs.law.runs_law.Goals as goal

pub returns : goal.returns
returns c = run_is_sound
