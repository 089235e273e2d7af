use Rattle.tap_node_common.proofs.Sending.{links_spelled}
use Rattle.tap_node_common.proofs.sender.Sender.send_words.Goals as goal

pub send_links-requires : goal.send_links-requires
send_links-requires c = links_spelled c.args.self.now c.requires.own c.args.words c.requires.to
