use Rattle.std.proofs.Common.{◌≡◌, true, IfSome, refl, sym, ◌∙◌}
use Rattle.tap_rule.specs.Node.{NodeState}
use Rattle.tap_depart.specs.ToldLeave.{told_leave}
use Rattle.tap_node_common.proofs.NumbersLeft.{hops-sound}
use Rattle.tap_core_node.specs.Primaries.{IsLevelOfLeave, has_other_primary}
use Rattle.tap_core_node.specs.State.{core_state}
use Rattle.tap_core_node.proofs.Laid.{laid-leave_at}
use Rattle.tap_core_node.proofs.CoreSteps.{left_quietly}
use Rattle.tap_core_node.proofs.core_node.CoreNode.on_leave.Goals as goal

pub reconcile_beside-requires-clause-hops : goal.reconcile_beside-requires-clause-hops
reconcile_beside-requires-clause-hops c =
    rw (c.told_leave.ensures.settings, c.ties_mut.ensures.value) (hops-sound (core_state c.args.self.now) c.requires.sound)

pub reconcile_beside-requires-clause-others : goal.reconcile_beside-requires-clause-others
reconcile_beside-requires-clause-others c =
    let node : NodeState = core_state c.args.self.now in
    let level : IfSome c.level_of_leave-level.result (IsLevelOfLeave node.ties.table c.args.from c.args.replacement) =
    rw (c.table-2.ensures.value, c.ties-2.ensures) at c.level_of_leave-level.ensures.level in
    let ties : c.told_leave.new.ties ≡ told_leave node.ties c.args.from c.args.replacement =
    rw c.ties_mut.ensures.value at c.in_ok-word.ensures.after in
    rw ties (laid-leave_at node.ties c.args.from c.requires.sound.valid.ties.table c.requires.name c.requires.other node.pointers
    c.requires.sound.pairs c.requires.sound.laid c.args.replacement c.requires.replacement c.level_of_leave-level.result level)

pub returns-then-other : goal.returns-then-other
returns-then-other c =
    let node : NodeState = core_state c.args.self.now in
    let other : has_other_primary node.ties.table c.args.from ≡ true =
    rw (c.table.ensures.value, c.ties.ensures) at (sym c.has_other_primary-other.ensures ∙ c.if-other.true) in
    left_quietly node c.requires.sound refl c.args.sent.now c.args.from c.requires.name c.requires.other c.args.replacement _ _
    c.send_word.new.sent _ other
    (rw c.ties_mut.ensures.value at c.in_ok-word.ensures.after)
    (rw c.ties_mut.ensures.value at c.in_ok-word.ensures.stamped)
    (rw (
      c.sender-sender.ensures.value,
      c.in_ok-word.ensures.owner,
      c.in_ok-word.ensures.settings,
      c.in_ok-word.ensures.answer,
      c.ties_mut.ensures.value,
    ) at c.in_ok-send_word.ensures)
    (rw (c.sender-sender.ensures.value, c.in_ok-word.ensures.owner, c.in_ok-word.ensures.settings, c.ties_mut.ensures.value)
    at c.in_ok-send.ensures)
