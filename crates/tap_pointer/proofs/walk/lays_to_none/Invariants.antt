use Rattle.std.proofs.Common.{◌≡◌, ◌+◌, ◌≤◌, ◌++◌, length}
use Rattle.tap_pointer.specs.Pointers.{held_or_laid_count}
use Rattle.tap_pointer.specs.Reconcile.{layings_to_none, lays_numbered}
use Rattle.tap_pointer.proofs.walk.lays_to_none.Given as goal

abbrev pub invariant-loop-pair : goal.invariant-loop-pair
invariant-loop-pair l =
    (l.lays.items ++ lays_numbered l.stamp (layings_to_none l.pair-iterator) ≡ lays_numbered l.fn.stamp (layings_to_none l.pairs.entries))
    × (l.stamp ≡ l.fn.stamp + length l.lays.items)
    × (l.stamp + held_or_laid_count l.pair-iterator ≤ 4294967295)
