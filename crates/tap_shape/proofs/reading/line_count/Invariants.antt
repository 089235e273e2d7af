use Rattle.std.proofs.Common.{◌≡◌, ◌+◌, length}
use Rattle.tap_shape.specs.Text.{line_count}
use Rattle.tap_shape.proofs.reading.line_count.Given as goal

-- what was counted, and what is left, are all
abbrev pub invariant-loop-rest : goal.invariant-loop-rest
invariant-loop-rest l = l.count + line_count l.rest ≡ line_count l.bytes

abbrev pub decreases-loop-rest : goal.decreases-loop-rest
decreases-loop-rest l = length l.rest
