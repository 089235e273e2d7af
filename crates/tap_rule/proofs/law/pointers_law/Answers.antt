use Rattle.tap_rule.proofs.PointerSteps.{find_law, found_law, lay_law, lookup_law, publish_law, withdraw_law}
use Rattle.tap_rule.proofs.law.pointers_law.Goals as goal

pub returns-clause-lay : goal.returns-clause-lay
returns-clause-lay c = lay_law

pub returns-clause-find : goal.returns-clause-find
returns-clause-find c = find_law

pub returns-clause-answer : goal.returns-clause-answer
returns-clause-answer c = found_law

pub returns-clause-publishes : goal.returns-clause-publishes
returns-clause-publishes c = publish_law

pub returns-clause-withdraws : goal.returns-clause-withdraws
returns-clause-withdraws c = withdraw_law

pub returns-clause-looks_up : goal.returns-clause-looks_up
returns-clause-looks_up c = lookup_law
