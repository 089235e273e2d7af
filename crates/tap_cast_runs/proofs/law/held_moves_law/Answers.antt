use Rattle.tap_cast_runs.proofs.HeldAnew.{move_keeps_answers}
use Rattle.tap_cast_runs.proofs.law.held_moves_law.Goals as goal

pub returns : goal.returns
returns c = move_keeps_answers
