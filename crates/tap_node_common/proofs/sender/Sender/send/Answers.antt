use Rattle.tap_rule.specs.Reaction.{message}
use Rattle.tap_node_common.proofs.Sending.{one_spelled}
use Rattle.tap_node_common.proofs.sender.Sender.send.Goals as goal

pub send-requires : goal.send-requires
send-requires c = one_spelled c.args.self.now c.requires.own (message c.args.to.now c.args.body) c.requires.to c.requires.body
