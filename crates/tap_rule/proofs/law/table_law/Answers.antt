use Rattle.tap_rule.proofs.HasRule.{has_rule_law, has_start_rule_law, without_rule_law, without_start_rule_law}
use Rattle.tap_rule.proofs.law.table_law.Goals as goal

pub returns-clause-frame : goal.returns-clause-frame
returns-clause-frame c = has_rule_law

pub returns-clause-start : goal.returns-clause-start
returns-clause-start c = has_start_rule_law

pub returns-clause-without : goal.returns-clause-without
returns-clause-without c = without_rule_law

pub returns-clause-start_without : goal.returns-clause-start_without
returns-clause-start_without c = without_start_rule_law
