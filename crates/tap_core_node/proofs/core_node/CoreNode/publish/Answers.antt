use Rattle.std.proofs.Common.{ℕ, List, refl, subst}
use Rattle.tap_pointer.specs.Pointers.{PointersValue, pair_of, published}
use Rattle.tap_pointer.specs.Reconcile.{AreLaidBut}
use Rattle.tap_pointer.proofs.Laws.{published_lays_others}
use Rattle.tap_rule.specs.Node.{NodeState, settings_of}
use Rattle.tap_node_common.proofs.Pairs.{hops-published, named-published}
use Rattle.tap_node_common.proofs.NumbersLeft.{hops-sound}
use Rattle.tap_core_node.specs.State.{core_state}
use Rattle.tap_core_node.proofs.CoreSteps.{silent_and_laid}
use Rattle.tap_core_node.proofs.core_node.CoreNode.publish.Goals as goal

pub reconcile_own-requires-clause-names : goal.reconcile_own-requires-clause-names
reconcile_own-requires-clause-names c =
    let node : NodeState = core_state c.args.self.now in
    rw c.in_ok-publish.ensures.after (named-published (settings_of node) node.pointers c.args.object c.requires.object
    (rw c.requires.sound.valid.owner c.requires.sound.valid.ties.table.owner) c.requires.sound.pairs)

pub reconcile_own-requires-clause-hops : goal.reconcile_own-requires-clause-hops
reconcile_own-requires-clause-hops c =
    let node : NodeState = core_state c.args.self.now in
    rw c.in_ok-publish.ensures.after (hops-published (settings_of node) node.pointers c.args.object (hops-sound node c.requires.sound))

pub reconcile_own-requires-clause-others : goal.reconcile_own-requires-clause-others
reconcile_own-requires-clause-others c =
    let node : NodeState = core_state c.args.self.now in
    let after : PointersValue = published node.pointers c.args.object in
    rw c.in_ok-publish.ensures.after (subst
    (λ (own : List ℕ). AreLaidBut node.ties.table (pair_of c.args.object own) after) c.requires.sound.valid.owner
    (published_lays_others node.ties.table c.args.object node.pointers c.requires.sound.laid))

pub returns : goal.returns
returns c =
    let node : NodeState = core_state c.args.self.now in
    let changed : NodeState = record node { pointers = published node.pointers c.args.object } in
    let middle : NodeState = record node { pointers = c.publish.new.self } in
    silent_and_laid node changed _ middle c.args.sent.now _ refl refl (rw c.in_ok-publish.ensures.after refl)
    c.in_ok-reconcile_own.ensures.after c.in_ok-reconcile_own.ensures.sent
