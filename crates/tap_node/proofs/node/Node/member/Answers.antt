use Rattle.std.proofs.Common.{rules}
use Rattle.tap_name.specs.Settings.{AreWithinLimits}
use Rattle.tap_core_node.specs.State.{core_state}
use Rattle.tap_node.proofs.Starting.{member_kept}
use Rattle.tap_node.proofs.node.Node.member.Goals as goal

pub invariant_of-result : goal.invariant_of-result
invariant_of-result c =
    let limits : AreWithinLimits c.args.settings.now = search rules in
    member_kept c.args.settings.now c.args.members.now c.args.name (core_state c.in_ok-core.core) limits c.requires.names
    c.requires.distinct c.requires.member c.requires.few c.in_ok-core.ensures
