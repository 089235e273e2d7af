use Rattle.std.proofs.Common.{false}
use Rattle.tap_table.specs.Ties.{holders_on}
use Rattle.tap_wire.specs.declared.frame.Body.TheVariants.{Release}
use Rattle.tap_rule.specs.Event.News.{Core as CoreNews}
use Rattle.tap_rule.specs.Joining.{becomes_core}
use Rattle.tap_rule.specs.Node.{NodeState}
use Rattle.tap_rule.specs.Reaction.{to_each}
use Rattle.tap_node_common.proofs.ReactionSteps.{messages_step}
use Rattle.tap_node_common.proofs.Ending.{holders_named}
use Rattle.tap_joining_node.specs.State.{joining_state}
use Rattle.tap_joining_node.proofs.joining_node.JoiningNode.become_core.Goals as goal

pub send_each-requires-clause-to : goal.send_each-requires-clause-to
send_each-requires-clause-to c =
    rw (c.in_ok-holders.ensures, c.ties.ensures, c.sender-sender.ensures.value)
    (holders_named c.args.self.joining.ties c.sender-sender.ensures.valid)

pub returns : goal.returns
returns c =
    let node : NodeState = record (joining_state c.args.self) { abandoned = false } in
    let sender = rw c.sender-sender.ensures.value at c.in_ok-send_each.ensures in
    let frames = rw (c.in_ok-holders.ensures, c.ties.ensures) at sender in
    rw (c.finish.ensures, c.requires)
    (messages_step node (becomes_core node).state (to_each Release (holders_on node.ties)) CoreNews c.args.sent.now
    c.send_each.new.sent frames)
