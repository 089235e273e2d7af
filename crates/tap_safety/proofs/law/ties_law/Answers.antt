use Rattle.tap_safety.proofs.TiesLaws.{ties_law, versions_law}
use Rattle.tap_safety.proofs.StepLaws.{words_said_law, ceased_words_law, ties_words_law, versions_words_law}
use Rattle.tap_safety.proofs.law.ties_law.Goals as goal

pub returns-clause-ties : goal.returns-clause-ties
returns-clause-ties c = ties_law

pub returns-clause-versions : goal.returns-clause-versions
returns-clause-versions c = versions_law

pub returns-clause-words : goal.returns-clause-words
returns-clause-words c = ties_words_law

pub returns-clause-words_versions : goal.returns-clause-words_versions
returns-clause-words_versions c = versions_words_law

pub returns-clause-words_ceased : goal.returns-clause-words_ceased
returns-clause-words_ceased c = ceased_words_law

pub returns-clause-said : goal.returns-clause-said
returns-clause-said c = words_said_law
