use Rattle.tap_lawful.proofs.CarriedRunMoves.{carried_groups_move}
use Rattle.tap_lawful.proofs.law.carried_moves_law.Goals as goal

pub returns : goal.returns
returns c = carried_groups_move
