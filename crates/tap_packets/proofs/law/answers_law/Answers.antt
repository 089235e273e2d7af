use Rattle.tap_packets.proofs.BoxesByRecord.{boxes_answer_holds}
use Rattle.tap_packets.proofs.law.answers_law.Goals as goal

pub returns : goal.returns
returns c = boxes_answer_holds
