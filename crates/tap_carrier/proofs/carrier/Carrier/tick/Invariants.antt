use Rattle.tap_carrier.proofs.Ticking.{TicksTo}
use Rattle.tap_carrier.proofs.carrier.Carrier.tick.Given as goal

abbrev pub invariant-loop-packet : goal.invariant-loop-packet
invariant-loop-packet l = TicksTo l.fn.world.beginning.settings l.packet-index l.fn.world l.world l.self
