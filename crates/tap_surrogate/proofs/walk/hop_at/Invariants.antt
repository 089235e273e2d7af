use Rattle.std.proofs.Common.{◌<◌}
use Rattle.tap_surrogate.specs.Nodes.{core_links}
use Rattle.tap_surrogate.specs.Distance.{cyclic_distance}
use Rattle.tap_surrogate.proofs.Cyclic.{NonePassesBefore}
use Rattle.tap_surrogate.proofs.Paths.{leads}
use Rattle.tap_surrogate.proofs.walk.hop_at.Given as goal

abbrev pub invariant-loop-digit : goal.invariant-loop-digit
invariant-loop-digit g l = record {
  below : l.digit < l.base;
  first : NonePassesBefore l.base (leads (core_links (g.T.Tables.nodes l.tables)) l.table.owner l.level) l.wanted l.digit;
}

abbrev pub decreases-loop-digit : goal.decreases-loop-digit
decreases-loop-digit g l = cyclic_distance l.base l.digit l.own
