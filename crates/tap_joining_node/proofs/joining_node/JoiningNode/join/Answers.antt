use Rattle.std.proofs.Common.{[], ◌∷◌}
use Rattle.tap_wire.specs.declared.frame.Body.TheVariants.{Seek}
use Rattle.tap_rule.specs.Event.News.{Nothing as NothingNews}
use Rattle.tap_rule.specs.Node.{name_of}
use Rattle.tap_rule.specs.Reaction.{message}
use Rattle.tap_node_common.proofs.ReactionSteps.{messages_step}
use Rattle.tap_joining_node.specs.State.{joining_state}
use Rattle.tap_joining_node.proofs.joining_node.JoiningNode.join.Goals as goal

pub returns : goal.returns
returns c =
    let node = joining_state c.args.self.now in
    let frames = rw c.sender-sender.ensures.value at c.in_ok-send.ensures in
    messages_step node node (message c.args.via (Seek (name_of node)) ∷ []) NothingNews c.args.sent.now c.send.new.sent frames
