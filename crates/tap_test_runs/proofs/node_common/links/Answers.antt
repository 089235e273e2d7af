use Rattle.tap_node_common.proofs.Spellings.{links_spelled}
use Rattle.tap_test_runs.proofs.node_common.links.Goals as goal

pub send_links-requires : goal.send_links-requires
send_links-requires g c =
    links_spelled c.args.settings.now c.name_of-from.result c.name_of-from.ensures c.add_word-3.new.words c.add_word-3.ensures
