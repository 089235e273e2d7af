use Rattle.std.proofs.Common.{◌≡◌, ◌+◌, ◌≤◌, length}
use Rattle.tap_pointer.specs.Pointers.{held_or_laid_count}
use Rattle.tap_pointer.proofs.change.held_or_laid_count.Given as goal

abbrev pub invariant-loop-state : goal.invariant-loop-state
invariant-loop-state l =
    (l.count + held_or_laid_count l.state-iterator ≡ held_or_laid_count l.pairs.entries)
    × (l.count + length l.state-iterator ≤ length l.pairs.entries)
