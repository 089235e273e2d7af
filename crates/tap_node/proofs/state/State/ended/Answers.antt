use Rattle.std.proofs.Common.{refl}
use Rattle.tap_node.proofs.state.State.ended.Goals as goal

pub returns : goal.returns
returns c = record { sessions = c.new.result; is = refl }
