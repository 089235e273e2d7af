use Rattle.tap_rule.proofs.KeptNode.{joiner_law, kept_law, member_law, start_kept_law}
use Rattle.tap_rule.proofs.Laid.{laid_law}
use Rattle.tap_rule.proofs.law.kept_law.Goals as goal

pub returns-clause-joiner : goal.returns-clause-joiner
returns-clause-joiner c = joiner_law

pub returns-clause-member : goal.returns-clause-member
returns-clause-member c = member_law

pub returns-clause-frame : goal.returns-clause-frame
returns-clause-frame c = kept_law

pub returns-clause-start : goal.returns-clause-start
returns-clause-start c = start_kept_law

pub returns-clause-laid : goal.returns-clause-laid
returns-clause-laid c = laid_law
