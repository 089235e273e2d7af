use Rattle.tap_rule.proofs.CarriedOut.{frame_law, start_law, strange_law, unruled_law, unruled_start_law}
use Rattle.tap_rule.proofs.Fit.{fit_law}
use Rattle.tap_rule.proofs.law.rule_law.Goals as goal

pub returns-clause-strange : goal.returns-clause-strange
returns-clause-strange c = strange_law

pub returns-clause-unruled : goal.returns-clause-unruled
returns-clause-unruled c = unruled_law

pub returns-clause-unruled_start : goal.returns-clause-unruled_start
returns-clause-unruled_start c = unruled_start_law

pub returns-clause-fit : goal.returns-clause-fit
returns-clause-fit c = fit_law

pub returns-clause-frame : goal.returns-clause-frame
returns-clause-frame c = frame_law

pub returns-clause-start : goal.returns-clause-start
returns-clause-start c = start_law
