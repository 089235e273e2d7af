use Rattle.tap_node_common.proofs.Ending.{ended_named, holders_named}
use Rattle.tap_joining_node.proofs.joining_node.JoiningNode.cease.Goals as goal

pub send_words-requires-clause-to : goal.send_words-requires-clause-to
send_words-requires-clause-to c =
    rw (c.in_ok-words.ensures.links, c.sender-sender.ensures.value)
    (ended_named c.args.self.joining.ties.table c.args.self.stamp c.sender-sender.ensures.valid.table)

pub send_each-requires-clause-to : goal.send_each-requires-clause-to
send_each-requires-clause-to c =
    rw (c.in_ok-words.ensures.forget, c.sender-sender.ensures.value)
    (holders_named c.args.self.joining.ties c.sender-sender.ensures.valid)
