use Rattle.std.proofs.Common.{refl}
use Rattle.tap_rule.specs.FrameRules.{frame_at_core}
use Rattle.tap_core_node.specs.State.{core_state}
use Rattle.tap_core_node.proofs.CoreSteps.{found_follows}
use Rattle.tap_core_node.proofs.core_node.CoreNode.take.Goals as goal

pub returns-in-Answer : goal.returns-in-Answer
unfolding frame_at_core
returns-in-Answer c =
    rw c.in-Answer.is (found_follows (core_state c.args.self.now) c.requires.sound refl c.args.sent.now c.in-Answer.ticket
    c.in-Answer.server)
