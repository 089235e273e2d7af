use Rattle.tap_outstanding.proofs.Searching.{IsRanked}
use Rattle.tap_outstanding.proofs.levels.rank.Given as goal

abbrev pub invariant-loop-counts : goal.invariant-loop-counts
invariant-loop-counts l = IsRanked l.marks l.sums l.number l.counts-index l.at l.place
