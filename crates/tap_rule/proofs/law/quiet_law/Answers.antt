use Rattle.tap_rule.proofs.QuietSteps.{quiet_law, quiet_start_law}
use Rattle.tap_rule.proofs.law.quiet_law.Goals as goal

pub returns-clause-frame : goal.returns-clause-frame
returns-clause-frame c = quiet_law

pub returns-clause-start : goal.returns-clause-start
returns-clause-start c = quiet_start_law
