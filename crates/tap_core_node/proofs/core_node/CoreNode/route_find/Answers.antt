use Rattle.std.proofs.Common.{refl}
use Rattle.tap_rule.specs.Node.{NodeState}
use Rattle.tap_rule.specs.Pointers.{takes_find}
use Rattle.tap_node_common.specs.declared.news.News.TheVariants.{Nothing}
use Rattle.tap_core_node.specs.State.{core_state}
use Rattle.tap_core_node.proofs.Followed.{finds_quiet, follows_quiet}
use Rattle.tap_core_node.proofs.core_node.CoreNode.route_find.Goals as goal

pub returns : goal.returns
returns c =
    let node : NodeState = core_state c.args.self.now in
    let find = c.args.find.now in
    follows_quiet node (takes_find node find.ticket find.object find.asker find.level) node c.args.sent.now _ Nothing
    (finds_quiet node refl c.requires.sound.laid find.ticket find.object find.asker find.level)
    (c.in_ok-take_find.ensures node (rw (c.table.ensures.value, c.ties.ensures) refl) refl)
