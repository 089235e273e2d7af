use Rattle.std.proofs.Common.{◌≡◌}
use Rattle.tap_outstanding.specs.Levels.{sum_before}
use Rattle.tap_outstanding.proofs.levels.next_mark.Given as goal

abbrev pub invariant-loop-at : goal.invariant-loop-at
invariant-loop-at l = sum_before l.marks l.at ≡ sum_before l.marks l.number
