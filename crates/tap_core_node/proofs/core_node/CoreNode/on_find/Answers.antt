use Rattle.tap_rule.specs.FrameRules.{frame_at_core}
use Rattle.tap_core_node.proofs.core_node.CoreNode.on_find.Goals as goal

pub returns : goal.returns
unfolding frame_at_core
returns c = rw c.in-Find.is c.route_find.ensures
