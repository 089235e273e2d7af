use Rattle.std.proofs.Common.{◌≡◌, ◌+◌, ◌*◌, ◌≤◌, ◌++◌, true, length, All}
use Rattle.tap_name.specs.Name.{IsName}
use Rattle.tap_pointer.specs.Pointers.{is_held_or_laid, held_or_laid_count}
use Rattle.tap_pointer.specs.Reconcile.{AreLaidUnlessApart, IsWay, layings_to_wanted, lays_numbered}
use Rattle.tap_pointer.proofs.walk.lays_to_wanted.Given as goal

abbrev pub invariant-loop-pair : goal.invariant-loop-pair
invariant-loop-pair l =
    (l.lays.items ++ lays_numbered l.stamp (layings_to_wanted l.table l.pair-iterator)
    ≡ lays_numbered l.fn.stamp (layings_to_wanted l.table l.pairs.entries))
    × (l.stamp ≡ l.fn.stamp + length l.lays.items)
    × (l.stamp + 2 * held_or_laid_count l.pair-iterator ≤ 4294967295)
    × All (λ e. is_held_or_laid e.1 ≡ true → IsName l.table.settings e.0.object) l.pair-iterator
    × All (λ e. All (λ r. r.value.level ≤ length e.0.object) e.1.registers) l.pair-iterator
    × AreLaidUnlessApart l.table l.level l.pair-iterator
    × IsWay l.table l.way
    × (l.owner ≡ l.table.owner)
