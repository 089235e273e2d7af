use Rattle.std.proofs.Common.{◌≤◌}
use Rattle.tap_carrier.proofs.Carrying.{CarriesTo}
use Rattle.tap_carrier.proofs.carrier.Carrier.carry_since.Given as goal

abbrev pub invariant-loop-place : goal.invariant-loop-place
invariant-loop-place l = record {
  carries : CarriesTo l.settings l.from l.place l.fn.world l.world l.self;
  early : l.from ≤ l.place;
}
