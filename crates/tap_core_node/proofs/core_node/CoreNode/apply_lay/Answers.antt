use Rattle.tap_pointer.specs.Pointers.{pair_of}
use Rattle.tap_rule.specs.Node.{NodeState}
use Rattle.tap_rule.specs.Pointers.{takes_lay}
use Rattle.tap_node_common.specs.declared.news.News.TheVariants.{Nothing}
use Rattle.tap_node_common.proofs.Followed.{follows_rule}
use Rattle.tap_node_common.proofs.NumbersLeft.{hops-sound}
use Rattle.tap_node_common.proofs.ReactionSteps.{lay_step}
use Rattle.tap_core_node.specs.State.{core_state}
use Rattle.tap_core_node.proofs.core_node.CoreNode.apply_lay.Goals as goal

pub take_lay-requires-clause-hops : goal.take_lay-requires-clause-hops
take_lay-requires-clause-hops c =
    rw (c.table-table.ensures.value, c.ties.ensures) (hops-sound (core_state c.args.self.now) c.requires.sound)

pub returns : goal.returns
returns c =
    let node : NodeState = core_state c.args.self.now in
    let lay = c.args.lay.now in
    follows_rule node (takes_lay node lay.from (pair_of lay.object lay.server) lay.level lay.version lay.on) _ c.args.sent.now _ Nothing tt
    (lay_step node lay _ _ c.args.sent.now _ (rw (c.table-table.ensures.value, c.ties.ensures) at c.in_ok-take_lay.ensures.after)
    (rw (c.table-table.ensures.value, c.ties.ensures) at c.in_ok-take_lay.ensures.stamped)
    (rw (c.table-table.ensures.value, c.ties.ensures) at c.in_ok-take_lay.ensures.sent))
