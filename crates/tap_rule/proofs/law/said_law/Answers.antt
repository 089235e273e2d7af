use Rattle.tap_rule.proofs.Said.{cast_news_law, cast_of_law, lay_frame_law, link_frame_law, message_frame_law, to_each_law}
use Rattle.tap_rule.proofs.law.said_law.Goals as goal

pub returns-clause-message : goal.returns-clause-message
returns-clause-message c = message_frame_law

pub returns-clause-link : goal.returns-clause-link
returns-clause-link c = link_frame_law

pub returns-clause-lay : goal.returns-clause-lay
returns-clause-lay c = lay_frame_law

pub returns-clause-each : goal.returns-clause-each
returns-clause-each c = to_each_law

pub returns-clause-cast_news : goal.returns-clause-cast_news
returns-clause-cast_news c = cast_news_law

pub returns-clause-cast_of : goal.returns-clause-cast_of
returns-clause-cast_of c = cast_of_law
