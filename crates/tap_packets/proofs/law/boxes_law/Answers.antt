use Rattle.tap_packets.proofs.BoxesByRecord.{boxes_kept_holds}
use Rattle.tap_packets.proofs.law.boxes_law.Goals as goal

pub returns : goal.returns
returns c = boxes_kept_holds
