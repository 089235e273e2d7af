use Rattle.tap_packets.proofs.RunsEnd.{moves_cost_holds}
use Rattle.tap_packets.proofs.law.costs_law.Goals as goal

pub returns : goal.returns
returns c = moves_cost_holds
