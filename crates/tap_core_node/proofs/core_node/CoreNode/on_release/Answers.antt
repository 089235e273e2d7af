use Rattle.std.proofs.Common.{◌≡◌, nat_eq, ap, refl, sym, ◌∙◌}
use Rattle.tap_rule.specs.Node.{NodeState}
use Rattle.std.specs.List.{common_prefix_len}
use Rattle.tap_table.specs.Table.{TableValue, place_of, released as table_released}
use Rattle.tap_table.specs.Ties.{TiesValue, released}
use Rattle.tap_pointer.specs.Reconcile.{AreLaidBeside}
use Rattle.tap_table.proofs.Primaries.{primary_near}
use Rattle.tap_node_common.proofs.NumbersLeft.{hops-sound}
use Rattle.tap_core_node.specs.State.{core_state}
use Rattle.tap_core_node.proofs.Laid.{laid-released_beside, same_primary}
use Rattle.tap_core_node.proofs.CoreSteps.{released_and_laid, released_quietly}
use Rattle.tap_core_node.proofs.core_node.CoreNode.on_release.Goals as goal

pub reconcile_at-requires-clause-hops : goal.reconcile_at-requires-clause-hops
reconcile_at-requires-clause-hops c =
    rw (c.release-word.ensures.settings, c.ties_mut.ensures.value) (hops-sound (core_state c.args.self.now) c.requires.sound)

pub reconcile_at-requires-clause-others : goal.reconcile_at-requires-clause-others
reconcile_at-requires-clause-others c =
    let node : NodeState = core_state c.args.self.now in
    let t : TableValue = node.ties.table in
    let from = c.args.by.from in
    let ties : c.release-word.new.self ≡ released node.ties from = rw c.ties_mut.ensures.value at c.release-word.ensures.after in
    let owner : c.owner.result ≡ t.owner = c.owner.ensures.value ∙ ap (λ (u : TableValue). u.owner) c.table-3.ensures.value
    ∙ ap (λ (u : TiesValue). u.table.owner) (c.ties-3.ensures ∙ ties) in
    let level : c.lcp-level.result ≡ (place_of t.owner from).level =
    c.lcp-level.ensures.value ∙ ap (λ name. common_prefix_len nat_eq name from) owner in
    let beside : AreLaidBeside (table_released t from) (place_of t.owner from).level node.pointers =
    laid-released_beside t from c.requires.sound.valid.ties.table c.requires.name c.requires.other node.pointers c.requires.sound.pairs
    c.requires.sound.laid in
    let table : c.release-word.new.self.table ≡ table_released t from = ap (λ (u : TiesValue). u.table) ties in
    rw (table, level) beside

pub returns-then-eq : goal.returns-then-eq
returns-then-eq c =
    let node : NodeState = core_state c.args.self.now in
    let was : c.primary-before.result ≡ primary_near node.ties.table c.args.by.from =
    rw (c.near.ensures, c.table.ensures.value, c.ties.ensures) at c.primary-before.ensures.value in
    let now : c.primary-after.result ≡ primary_near c.release-word.new.self.table c.args.by.from =
    rw (c.near-2.ensures, c.table-2.ensures.value, c.ties-2.ensures) at c.primary-after.ensures.value in
    let same = same_primary c.primary-before.result c.primary-after.result (sym c.eq.ensures ∙ c.if-eq.true) in
    released_quietly node c.requires.sound refl c.args.sent.now c.args.by.from c.requires.name c.requires.other _ _ _
    (rw c.ties_mut.ensures.value at c.release-word.ensures.after)
    (rw (c.release-word.ensures.answer, c.ties_mut.ensures.value) at c.release-word.ensures.stamped)
    (rw (c.sender.ensures.value, c.release-word.ensures.after, c.release-word.ensures.answer, c.ties_mut.ensures.value)
    at c.in_ok-send_word.ensures)
    (sym now ∙ sym same ∙ was)

pub returns : goal.returns
returns c =
    let node : NodeState = core_state c.args.self.now in
    let middle : NodeState = record node { ties = c.release-word.new.self; stamp = c.release-word.new.stamp } in
    let ties = rw c.ties_mut.ensures.value at c.release-word.ensures.after in
    let stamp = rw (c.release-word.ensures.answer, c.ties_mut.ensures.value) at c.release-word.ensures.stamped in
    released_and_laid node c.requires.sound refl c.args.sent.now c.args.by.from c.requires.name c.requires.other _ middle
    c.send_word.new.sent _ (rw (ties, stamp) refl)
    (rw (c.sender.ensures.value, c.release-word.ensures.after, c.release-word.ensures.answer, c.ties_mut.ensures.value)
    at c.in_ok-send_word.ensures)
    c.in_ok-reconcile_at.ensures.after c.in_ok-reconcile_at.ensures.sent
