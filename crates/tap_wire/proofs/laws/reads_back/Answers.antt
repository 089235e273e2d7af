use Rattle.tap_wire.proofs.Frames.{reads_back}
use Rattle.tap_wire.proofs.laws.reads_back.Goals as goal

pub returns : goal.returns
returns c = reads_back
