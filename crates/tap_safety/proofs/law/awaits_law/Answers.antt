use Rattle.tap_safety.proofs.StepLaws.{awaited_closing_law, awaited_handing_on_law, awaited_last_law, awaited_opening_law}
use Rattle.tap_safety.proofs.StepLaws.{awaited_others_law, awaited_root_law, numbers_new_law}
use Rattle.tap_safety.proofs.law.awaits_law.Goals as goal

pub returns-clause-handed_on : goal.returns-clause-handed_on
returns-clause-handed_on c = awaited_handing_on_law

pub returns-clause-opened : goal.returns-clause-opened
returns-clause-opened c = awaited_opening_law

pub returns-clause-seated : goal.returns-clause-seated
returns-clause-seated c = awaited_root_law

pub returns-clause-closed : goal.returns-clause-closed
returns-clause-closed c = awaited_closing_law

pub returns-clause-last : goal.returns-clause-last
returns-clause-last c = awaited_last_law

pub returns-clause-others : goal.returns-clause-others
returns-clause-others c = awaited_others_law

pub returns-clause-numbers : goal.returns-clause-numbers
returns-clause-numbers c = numbers_new_law
