use Rattle.std.proofs.Common.{◌≡◌, drop}
use Rattle.tap_pointer.specs.Pointers.{held_or_laid_count}
use Rattle.tap_pointer.specs.Reconcile.{laid_by_all}
use Rattle.tap_pointer.proofs.walk.lay_as_told.Given as goal

abbrev pub invariant-loop-at : goal.invariant-loop-at
invariant-loop-at l =
    (laid_by_all l.pairs.entries (drop l.at l.lays) ≡ laid_by_all l.fn.pairs.entries l.lays)
    × (l.count ≡ held_or_laid_count l.pairs.entries)
