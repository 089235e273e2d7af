use Rattle.tap_safety.proofs.StepLaws.{exchanged_law, delivery_law, found_law, numbers_frame_law, numbers_start_law, start_is_law, stray_law}
use Rattle.tap_safety.proofs.law.move_law.Goals as goal

pub returns-clause-delivery : goal.returns-clause-delivery
returns-clause-delivery c = delivery_law

pub returns-clause-lost : goal.returns-clause-lost
returns-clause-lost c = stray_law

pub returns-clause-start : goal.returns-clause-start
returns-clause-start c = start_is_law

pub returns-clause-found : goal.returns-clause-found
returns-clause-found c = found_law

pub returns-clause-numbers : goal.returns-clause-numbers
returns-clause-numbers c = numbers_frame_law

pub returns-clause-more : goal.returns-clause-more
returns-clause-more c = numbers_start_law

pub returns-clause-exchanged : goal.returns-clause-exchanged
returns-clause-exchanged c = exchanged_law
