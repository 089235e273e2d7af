use Rattle.tap_name.specs.Name.{IsName}
use Rattle.tap_join.specs.Hello.{words_of}
use Rattle.tap_node_common.proofs.Sending.{all_words_of, links_spelled}
use Rattle.tap_node_common.proofs.sender.Sender.send_word.Goals as goal

pub send_link-requires : goal.send_link-requires
send_link-requires c =
    links_spelled c.args.self.now c.requires.own (words_of c.args.word)
    (all_words_of (λ w. IsName c.args.self.now.settings w.to) c.args.word c.requires.to)
