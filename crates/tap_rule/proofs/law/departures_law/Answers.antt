use Rattle.tap_rule.proofs.EndSteps.{gone_law, leave_law, left_law}
use Rattle.tap_rule.proofs.StartSteps.{leave_start_law}
use Rattle.tap_rule.proofs.law.departures_law.Goals as goal

pub returns-clause-leave : goal.returns-clause-leave
returns-clause-leave c = leave_law

pub returns-clause-left : goal.returns-clause-left
returns-clause-left c = left_law

pub returns-clause-gone : goal.returns-clause-gone
returns-clause-gone c = gone_law

pub returns-clause-starts : goal.returns-clause-starts
returns-clause-starts c = leave_start_law
