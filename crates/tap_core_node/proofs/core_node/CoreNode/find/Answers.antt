use Rattle.std.proofs.Common.{refl}
use Rattle.std.proofs.lemmas.Result.{IfOk-weaker}
use Rattle.tap_rule.specs.Node.{NodeState}
use Rattle.tap_rule.specs.Pointers.{starts_find}
use Rattle.tap_core_node.specs.State.{core_state}
use Rattle.tap_core_node.proofs.Followed.{asks_quiet, follows_quiet}
use Rattle.tap_core_node.proofs.core_node.CoreNode.find.Goals as goal

pub returns : goal.returns
returns c =
    let node : NodeState = core_state c.args.self.now in
    IfOk-weaker c.ask.result _ _
    (λ news each.
    follows_quiet node (starts_find node c.args.ticket c.args.object) node c.args.sent.now _ news
    (asks_quiet node refl c.requires.sound.laid c.args.ticket c.args.object)
    (each node (rw (c.table-table.ensures.value, c.ties.ensures) refl) refl))
    c.ask.ensures
