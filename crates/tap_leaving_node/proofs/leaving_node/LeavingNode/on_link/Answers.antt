use Rattle.tap_rule.specs.Event.News.{Nothing as NothingNews}
use Rattle.tap_rule.specs.Links.{release_answer, with_word}
use Rattle.tap_node_common.proofs.ReactionSteps.{messages_step}
use Rattle.tap_leaving_node.specs.State.{leaving_state}
use Rattle.tap_leaving_node.proofs.leaving_node.LeavingNode.on_link.Goals as goal

pub returns : goal.returns
returns c =
    let node = leaving_state c.args.self.now in
    let frames = rw c.ties_mut.ensures.value at c.in_ok-hear_and_release.ensures.sent in
    let after = rw c.ties_mut.ensures.value at c.in_ok-hear_and_release.ensures.after in
    rw after
    (messages_step node (with_word node c.args.holder c.args.version c.args.on) (release_answer node c.args.holder c.args.version c.args.on)
    NothingNews c.args.sent.now c.hear_and_release.new.sent frames)
