use Rattle.std.proofs.Common.{◌≡◌, length}
use Rattle.tap_pointer.specs.Pointers.{held_among}
use Rattle.tap_pointer.proofs.held.HeldIterator.next.Given as goal

abbrev pub invariant-loop-pair : goal.invariant-loop-pair
invariant-loop-pair l = held_among l.self-inside.entries ≡ held_among l.initial.self-inside.entries

abbrev pub decreases-loop-pair : goal.decreases-loop-pair
decreases-loop-pair l = length l.self-inside.entries
