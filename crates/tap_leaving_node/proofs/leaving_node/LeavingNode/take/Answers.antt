use Rattle.std.proofs.Common.{rules}
use Rattle.std.proofs.lemmas.Result.{IfOk-weaker}
use Rattle.tap_rule.specs.FrameRules.{frame_at_leaving}
use Rattle.tap_node_common.specs.declared.news.News.TheVariants.{Nothing}
use Rattle.tap_leaving_node.specs.State.{leaving_state}
use Rattle.tap_leaving_node.proofs.LeavingTakes.{answer_follows, link_follows}
use Rattle.tap_leaving_node.proofs.leaving_node.LeavingNode.take.Goals as goal

pub returns-in-Link : goal.returns-in-Link
returns-in-Link c =
    (IfOk-weaker c.on_link.result _ _
    (λ _ steps.
    link_follows (leaving_state c.args.self.now) tt c.args.frame.now (leaving_state c.on_link.new.self) c.args.sent.now
    c.on_link.new.sent Nothing c.requires.may.sound.laid c.in-Link.version c.in-Link.on c.in-Link.is steps)
    c.on_link.ensures)

pub returns-in-Answer : goal.returns-in-Answer
returns-in-Answer c =
    answer_follows (leaving_state c.args.self.now) tt c.args.frame.now c.requires.may.sound.laid c.args.sent.now c.in-Answer.ticket
    c.in-Answer.server c.in-Answer.is

pub returns-in-Seek : goal.returns-in-Seek
unfolding frame_at_leaving
returns-in-Seek c = search rules
