use Rattle.std.proofs.Common.{◌≡◌, ◌+◌}
use Rattle.tap_outstanding.specs.Levels.{sum_before}
use Rattle.tap_outstanding.proofs.levels.pass.Given as goal

abbrev pub invariant-loop-at : goal.invariant-loop-at
invariant-loop-at l = sum_before l.counts l.at + l.left ≡ sum_before l.counts l.from + l.initial.left
