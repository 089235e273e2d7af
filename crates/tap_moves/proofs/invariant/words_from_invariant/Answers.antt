use Rattle.tap_moves.proofs.StampMoves.{taken_stamped}
use Rattle.tap_moves.proofs.WordMoves.{taken_words}
use Rattle.tap_moves.proofs.invariant.words_from_invariant.Goals as goal

pub returns-clause-stand : goal.returns-clause-stand
returns-clause-stand c = taken_words

pub returns-clause-stamped : goal.returns-clause-stamped
returns-clause-stamped c = taken_stamped
