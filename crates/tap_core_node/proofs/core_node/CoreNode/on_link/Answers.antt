use Rattle.std.proofs.Common.{refl}
use Rattle.tap_core_node.specs.State.{core_state}
use Rattle.tap_core_node.proofs.CoreSteps.{heard_follows}
use Rattle.tap_core_node.proofs.core_node.CoreNode.on_link.Goals as goal

pub returns : goal.returns
returns c =
    heard_follows (core_state c.args.self.now) c.requires.sound refl c.args.sent.now c.args.holder c.args.version c.args.on _ _
    (rw c.ties_mut.ensures.value at c.in_ok-hear_and_release.ensures.after)
    (rw c.ties_mut.ensures.value at c.in_ok-hear_and_release.ensures.sent)
