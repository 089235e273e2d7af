use Rattle.std.proofs.Common.{◌≡◌, ◌+◌}
use Rattle.tap_outstanding.specs.Levels.{sum_before}
use Rattle.tap_outstanding.proofs.levels.find_mark.Given as goal

abbrev pub invariant-loop-at : goal.invariant-loop-at
invariant-loop-at l = sum_before l.marks l.at + l.left ≡ sum_before l.marks l.from + l.initial.left
