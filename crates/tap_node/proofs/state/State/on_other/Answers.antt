use Rattle.std.proofs.Common.{◌≡◌, true, false}
use Rattle.tap_node.proofs.state.State.on_other.Goals as goal

pub unreachable-requires : goal.unreachable-requires
unreachable-requires c = let wrong : true ≡ false = rw c.in-Ended.is at c.requires.held.runs in cc
