use Rattle.tap_moves.proofs.GivenUp.{given_up_ended, given_up_fills, given_up_peaceful, given_up_seeks, given_up_soft, given_up_stamped}
use Rattle.tap_moves.proofs.GivenUpWords.{given_up_words}
use Rattle.tap_moves.proofs.invariant.given_up_from_invariant.Goals as goal

pub returns-clause-fills : goal.returns-clause-fills
returns-clause-fills c = given_up_fills

pub returns-clause-ended : goal.returns-clause-ended
returns-clause-ended c = given_up_ended

pub returns-clause-soft : goal.returns-clause-soft
returns-clause-soft c = given_up_soft

pub returns-clause-seeks : goal.returns-clause-seeks
returns-clause-seeks c = given_up_seeks

pub returns-clause-peace : goal.returns-clause-peace
returns-clause-peace c = given_up_peaceful

pub returns-clause-stamped : goal.returns-clause-stamped
returns-clause-stamped c = given_up_stamped

pub returns-clause-words : goal.returns-clause-words
returns-clause-words c = given_up_words
