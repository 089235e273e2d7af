use Rattle.tap_node_common.proofs.Sending.{lays_spelled}
use Rattle.tap_node_common.proofs.sender.Sender.send_lays.Goals as goal

pub send_lays-requires : goal.send_lays-requires
send_lays-requires c = lays_spelled c.args.self.now c.requires.own c.args.lays.now c.requires.lays
