use Rattle.std.proofs.Common.{◌-◌}
use Rattle.tap_link.proofs.Search.{IsBetween}
use Rattle.tap_link.proofs.places.Places.search.Given as goal

abbrev pub invariant-loop-low : goal.invariant-loop-low
invariant-loop-low g l = IsBetween g.K.Ord.cmp l.self l.target l.low l.high

abbrev pub decreases-loop-low : goal.decreases-loop-low
decreases-loop-low g l = l.high - l.low
