use Rattle.std.proofs.Common.{◌≡◌, ◌+◌, ◌≤◌, length}
use Rattle.tap_pointer.specs.Pointers.{held_among}
use Rattle.tap_pointer.proofs.walk.held_count.Given as goal

abbrev pub invariant-loop-state : goal.invariant-loop-state
invariant-loop-state l =
    (l.count + length (held_among l.state-iterator) ≡ length (held_among l.pairs.entries))
    × (l.count + length l.state-iterator ≤ length l.pairs.entries)
