use Rattle.tap_packets.proofs.WaysOfBytes.{ways_of_bytes_holds}
use Rattle.tap_packets.proofs.law.ways_law.Goals as goal

pub returns : goal.returns
returns c = ways_of_bytes_holds
