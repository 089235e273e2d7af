use Rattle.tap_packets.proofs.SequenceNumbers.{tells_one}
use Rattle.tap_packets.proofs.law.sequence_law.Goals as goal

pub returns : goal.returns
returns c = tells_one
