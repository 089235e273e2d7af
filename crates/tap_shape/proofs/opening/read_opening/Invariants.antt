use Rattle.std.proofs.Common.{length}
use Rattle.tap_shape.specs.Opening.{opening, later_opening}
use Rattle.tap_shape.proofs.Openings.{HasRead}
use Rattle.tap_shape.proofs.opening.read_opening.Given as goal

-- so far the opening was read, and that of this rest of the bytes is left
abbrev pub invariant-loop-at : goal.invariant-loop-at
invariant-loop-at l = HasRead (opening l.bytes) (later_opening l.rest) l.begun

abbrev pub decreases-loop-at : goal.decreases-loop-at
decreases-loop-at l = length l.rest
