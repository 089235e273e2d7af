use Rattle.tap_moves.proofs.CoverMoves.{taken_peaceful, taken_seeks, taken_soft}
use Rattle.tap_moves.proofs.invariant.covers_from_invariant.Goals as goal

pub returns-clause-soft : goal.returns-clause-soft
returns-clause-soft c = taken_soft

pub returns-clause-seeks : goal.returns-clause-seeks
returns-clause-seeks c = taken_seeks

pub returns-clause-peace : goal.returns-clause-peace
returns-clause-peace c = taken_peaceful
