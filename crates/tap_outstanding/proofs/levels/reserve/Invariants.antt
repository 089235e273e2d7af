use Rattle.tap_outstanding.proofs.Reserving.{IsReservedUpTo}
use Rattle.tap_outstanding.proofs.levels.reserve.Given as goal

abbrev pub invariant-loop-counts : goal.invariant-loop-counts
invariant-loop-counts l = IsReservedUpTo l.more l.initial.sums l.sums l.counts-index
