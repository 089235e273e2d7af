use Rattle.std.proofs.Common.{◌≡◌}
use Rattle.std.specs.List.{slice_get}
use Rattle.tap_pointer.specs.Pointers.{held_among}
use Rattle.tap_pointer.proofs.walk.held_at.Given as goal

abbrev pub invariant-loop-pair : goal.invariant-loop-pair
invariant-loop-pair l = slice_get (held_among l.pair-iterator) l.left ≡ slice_get (held_among l.pairs.entries) l.i
