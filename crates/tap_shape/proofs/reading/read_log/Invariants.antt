use Rattle.std.proofs.Common.{◌+◌, ◌≤◌, length}
use Rattle.tap_shape.specs.Reader.{HasBegun}
use Rattle.tap_shape.proofs.Exact.{Reads}
use Rattle.tap_shape.proofs.reading.read_log.Given as goal

-- the log has taken so many lines, and this rest of the bytes is left
abbrev pub invariant-loop-at : goal.invariant-loop-at
invariant-loop-at l = Reads l.bytes l.rest l.lines (HasBegun l.begun) × (l.lines + length l.rest ≤ length l.bytes)

abbrev pub decreases-loop-at : goal.decreases-loop-at
decreases-loop-at l = length l.rest
