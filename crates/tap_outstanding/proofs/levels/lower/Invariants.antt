use Rattle.tap_outstanding.proofs.Lowering.{IsLoweredUpTo}
use Rattle.tap_outstanding.proofs.levels.lower.Given as goal

abbrev pub invariant-loop-counts : goal.invariant-loop-counts
invariant-loop-counts l = IsLoweredUpTo l.initial.sums l.sums l.number l.counts-index l.at
