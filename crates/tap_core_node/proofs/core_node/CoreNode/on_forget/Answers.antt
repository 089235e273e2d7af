use Rattle.std.proofs.Common.{refl}
use Rattle.tap_core_node.specs.State.{core_state}
use Rattle.tap_core_node.proofs.CoreSteps.{forgotten_follows}
use Rattle.tap_core_node.proofs.core_node.CoreNode.on_forget.Goals as goal

pub returns : goal.returns
returns c = λ before.
    forgotten_follows (core_state c.args.self.now) c.requires.sound refl before c.args.by.from c.requires.name c.requires.other _
    (rw c.ties_mut.ensures.value at c.forget.ensures.after)
