use Rattle.std.proofs.Common.{◌≡◌, take}
use Rattle.tap_shape.specs.Text.{line_count}
use Rattle.tap_shape.proofs.reading.piece_line_count.Given as goal

abbrev pub invariant-loop-at : goal.invariant-loop-at
invariant-loop-at l = l.count ≡ line_count (take l.at l.piece)
