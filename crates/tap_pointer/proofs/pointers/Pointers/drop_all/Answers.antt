use Rattle.std.proofs.Common.{false, sym, subst}
use Rattle.std.specs.List.{All}
use Rattle.tap_pointer.specs.Pointers.{IsHeldFrom, IsPairState, with_published}
use Rattle.tap_pointer.proofs.Known.{known-map, known-withdrawn}
use Rattle.tap_pointer.proofs.Lowest.{from-map, from-withdrawn}
use Rattle.tap_pointer.proofs.pointers.Pointers.drop_all.Goals as goal

pub invariant_of-self : goal.invariant_of-self
invariant_of-self c =
    let owner = c.self.inside.owner in
    let lowest = c.self.inside.lowest in (
      subst (All (IsPairState owner)) (sym c.withdraw_all.ensures)
          (known-map owner (λ e. with_published e.1 false) (λ e known. known-withdrawn owner e.0 e.1 known)
          c.self.inside.pairs.entries c.self.invariant.0),
      c.held_or_laid_count-self-inside.ensures,
      subst (All (IsHeldFrom lowest)) (sym c.withdraw_all.ensures)
          (from-map lowest (λ e. with_published e.1 false) (λ e from. from-withdrawn lowest e.0 e.1 from)
          c.self.inside.pairs.entries c.self.invariant.2),
    )
