use Rattle.tap_packets.proofs.GatheredAwaits.{outboxes_together_holds}
use Rattle.tap_packets.proofs.law.together_law.Goals as goal

pub returns : goal.returns
returns c = outboxes_together_holds
