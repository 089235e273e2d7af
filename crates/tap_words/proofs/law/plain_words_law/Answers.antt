use Rattle.tap_words.proofs.Plain.{plain_words_are_accepted}
use Rattle.tap_words.proofs.law.plain_words_law.Goals as goal

pub returns : goal.returns
returns c = plain_words_are_accepted
