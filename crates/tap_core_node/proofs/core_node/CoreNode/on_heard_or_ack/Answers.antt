use Rattle.std.proofs.Common.{refl}
use Rattle.tap_core_node.specs.State.{core_state}
use Rattle.tap_core_node.proofs.CoreSteps.{answered_follows}
use Rattle.tap_core_node.proofs.core_node.CoreNode.on_heard_or_ack.Goals as goal

pub returns : goal.returns
returns c =
    answered_follows (core_state c.args.self.now) c.requires refl c.args.sent.now c.args.session _ _ c.take_answer.ensures.after
    (rw c.sender-sender.ensures.value at c.in_ok-take_answer.ensures.sent)
