use Rattle.tap_node_common.proofs.Sending.{each_spelled}
use Rattle.tap_node_common.proofs.sender.Sender.send_each.Goals as goal

pub send_each-requires : goal.send_each-requires
send_each-requires c = each_spelled c.args.self.now c.requires.own c.args.body c.args.names.now c.requires.to c.requires.body
