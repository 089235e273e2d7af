use Rattle.tap_rule.specs.FrameRules.{frame_at_core}
use Rattle.tap_core_node.proofs.core_node.CoreNode.on_lay.Goals as goal

pub returns : goal.returns
unfolding frame_at_core
returns c = rw c.in-Lay.is c.apply_lay.ensures
