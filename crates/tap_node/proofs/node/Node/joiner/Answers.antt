use Rattle.std.proofs.Common.{rules}
use Rattle.tap_name.specs.Settings.{AreWithinLimits}
use Rattle.tap_joining_node.specs.State.{joining_state}
use Rattle.tap_node.proofs.Starting.{joiner_kept}
use Rattle.tap_node.proofs.node.Node.joiner.Goals as goal

pub invariant_of-result : goal.invariant_of-result
invariant_of-result c =
    let limits : AreWithinLimits c.args.settings.now = search rules in
    joiner_kept c.args.settings.now c.args.name (joining_state c.in_ok-joining.joining) limits c.requires c.in_ok-joining.ensures
