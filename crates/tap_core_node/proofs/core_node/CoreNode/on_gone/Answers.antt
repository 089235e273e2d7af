use Rattle.std.proofs.Common.{◌≡◌, refl, sym, ◌∙◌}
use Rattle.tap_table.proofs.Primaries.{primary_near}
use Rattle.tap_table.specs.Ties.{removed}
use Rattle.tap_rule.specs.Node.{NodeState}
use Rattle.tap_node_common.proofs.NumbersLeft.{hops-sound}
use Rattle.tap_core_node.specs.State.{core_state}
use Rattle.tap_core_node.proofs.Laid.{same_primary}
use Rattle.tap_core_node.proofs.CoreSteps.{removed_quietly, silent_and_laid}
use Rattle.tap_core_node.proofs.core_node.CoreNode.on_gone.Goals as goal

pub reconcile-requires-clause-hops : goal.reconcile-requires-clause-hops
reconcile-requires-clause-hops c =
    rw (c.remove_settled.ensures.settings, c.ties_mut.ensures.value) (hops-sound (core_state c.args.self.now) c.requires.sound)

pub returns-then-eq : goal.returns-then-eq
returns-then-eq c =
    let node : NodeState = core_state c.args.self.now in
    let was : c.primary-old_primary.result ≡ primary_near node.ties.table c.args.from =
    rw (c.near.ensures, c.table.ensures.value, c.ties.ensures) at c.primary-old_primary.ensures.value in
    let now : c.primary-new_primary.result ≡ primary_near c.remove_settled.new.self.table c.args.from =
    rw (c.near-2.ensures, c.table-2.ensures.value, c.ties-2.ensures) at c.primary-new_primary.ensures.value in
    let same = same_primary c.primary-old_primary.result c.primary-new_primary.result (sym c.eq.ensures ∙ c.if-eq.true) in
    removed_quietly node c.requires.sound refl c.args.sent.now c.args.from c.requires.name c.requires.other _
    (rw c.ties_mut.ensures.value at c.remove_settled.ensures.after)
    (sym now ∙ sym same ∙ was)

pub returns : goal.returns
returns c =
    let node : NodeState = core_state c.args.self.now in
    let changed : NodeState = record node { ties = removed node.ties c.args.from } in
    let middle : NodeState = record node { ties = c.remove_settled.new.self } in
    let same = rw c.ties_mut.ensures.value at c.remove_settled.ensures.after in
    silent_and_laid node changed _ middle c.args.sent.now _ refl refl (rw same refl) c.in_ok-reconcile.ensures.after
    c.in_ok-reconcile.ensures.sent
