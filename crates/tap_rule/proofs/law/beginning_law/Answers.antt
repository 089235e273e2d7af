use Rattle.tap_rule.proofs.Begins.{begins_at_rest_law, begins_to_join_law}
use Rattle.tap_rule.proofs.law.beginning_law.Goals as goal

pub returns-clause-joiner : goal.returns-clause-joiner
returns-clause-joiner c = begins_to_join_law

pub returns-clause-member : goal.returns-clause-member
returns-clause-member c = begins_at_rest_law
