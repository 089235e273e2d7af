use Rattle.tap_packets.proofs.RunsEnd.{runs_end_holds}
use Rattle.tap_packets.proofs.law.ends_law.Goals as goal

pub returns : goal.returns
returns c = runs_end_holds
