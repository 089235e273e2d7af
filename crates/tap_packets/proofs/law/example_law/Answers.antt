use Rattle.tap_packets.proofs.LostPacket.{an_example_holds}
use Rattle.tap_packets.proofs.law.example_law.Goals as goal

pub returns : goal.returns
returns c = an_example_holds
