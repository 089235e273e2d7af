use Rattle.tap_rule.proofs.AnswerSteps.{ack_law, heard_law}
use Rattle.tap_rule.proofs.LinkSteps.{forget_law, link_law, release_law}
use Rattle.tap_rule.proofs.law.frames_law.Goals as goal

pub returns-clause-release : goal.returns-clause-release
returns-clause-release c = release_law

pub returns-clause-forget : goal.returns-clause-forget
returns-clause-forget c = forget_law

pub returns-clause-link : goal.returns-clause-link
returns-clause-link c = link_law

pub returns-clause-heard : goal.returns-clause-heard
returns-clause-heard c = heard_law

pub returns-clause-ack : goal.returns-clause-ack
returns-clause-ack c = ack_law
