use Rattle.tap_packets.proofs.TakenOnce.{taken_once_holds}
use Rattle.tap_packets.proofs.law.once_law.Goals as goal

pub returns : goal.returns
returns c = taken_once_holds
