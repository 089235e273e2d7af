use Rattle.tap_outstanding.specs.Levels.{level}
use Rattle.tap_outstanding.proofs.GrowingMarks.{IsGrownUpTo, IsWhole}
use Rattle.tap_outstanding.proofs.levels.raise.Given as goal

abbrev pub invariant-loop-counts : goal.invariant-loop-counts
invariant-loop-counts l =
    IsGrownUpTo l.marks.items l.initial.sums l.sums l.counts-index × IsWhole (level l.marks.items l.sums l.counts-index) l.sum
