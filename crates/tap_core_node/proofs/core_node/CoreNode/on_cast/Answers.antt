use Rattle.std.proofs.Common.{arith}
use Rattle.tap_rule.specs.FrameRules.{frame_at_core}
use Rattle.tap_core_node.specs.State.{core_state}
use Rattle.tap_core_node.proofs.Asked.{cast_depth}
use Rattle.tap_core_node.proofs.core_node.CoreNode.on_cast.Goals as goal

pub note_cast-requires-clause-depth : goal.note_cast-requires-clause-depth
note_cast-requires-clause-depth c =
    cast_depth (core_state c.args.self.now) c.args.frame.now c.requires.may c.in-Cast.cast c.in-Cast.level c.in-Cast.session c.in-Cast.depth
    c.in-Cast.word c.in-Cast.is (omega arith)

pub returns : goal.returns
unfolding frame_at_core
returns c = rw c.in-Cast.is (rw c.as_slice.ensures at c.note_cast.ensures)
