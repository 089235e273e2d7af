use Rattle.tap_joining_node.proofs.HelloNamed.{hello_named}
use Rattle.tap_joining_node.proofs.joining_node.JoiningNode.on_hello.Goals as goal

pub send_words-requires-clause-to : goal.send_words-requires-clause-to
send_words-requires-clause-to c =
    let self = c.args.self.now in
    let ties = self.joining.ties in
    rw (c.in_ok-words.ensures.answer, c.sender-sender.ensures.value, c.hello.ensures.settings)
    (hello_named ties.table.settings ties self.stamp c.args.from c.args.core c.args.links.now c.requires.sender c.requires.links.names)
