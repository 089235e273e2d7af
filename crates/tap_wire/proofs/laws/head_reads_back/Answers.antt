use Rattle.tap_wire.proofs.Frames.{head_reads_back}
use Rattle.tap_wire.proofs.laws.head_reads_back.Goals as goal

pub returns : goal.returns
returns c = head_reads_back
