use Rattle.tap_scenario.proofs.OtherSettings.{other_names_are_plain_holds, other_steps_are_plain_holds, steps_stand_for_themselves_holds}
use Rattle.tap_scenario.proofs.law.spellings_law.Goals as goal

pub returns-clause-plain : goal.returns-clause-plain
returns-clause-plain c = steps_stand_for_themselves_holds

pub returns-clause-names : goal.returns-clause-names
returns-clause-names c = other_names_are_plain_holds

pub returns-clause-steps : goal.returns-clause-steps
returns-clause-steps c = other_steps_are_plain_holds
