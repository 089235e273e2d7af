use Rattle.tap_moves.proofs.CalmMoves.{frame_peaceful, frame_seeks}
use Rattle.tap_moves.proofs.DeeperMoves.{frame_deeper}
use Rattle.tap_moves.proofs.law.calm_from_invariant.Goals as goal

pub returns-clause-seeks : goal.returns-clause-seeks
returns-clause-seeks c = frame_seeks

pub returns-clause-peace : goal.returns-clause-peace
returns-clause-peace c = frame_peaceful

pub returns-clause-deeper : goal.returns-clause-deeper
returns-clause-deeper c = frame_deeper
