-- The order of pairs of an object and a server.
use Rattle.std.specs.Prelude.{◌≡◌, ◌&&◌, nat_eq}
use Rattle.std.specs.Cmp.{IsTotalOrder}
use Rattle.std.specs.Cmp.Lexicographic.{nat_list_cmp_total, pointwise, texts_ties}
use Rattle.std.specs.Ordering.{is_eq, ordering_then}
use Rattle.std.specs.declared.cmp.Ordering.{Ordering}
use Rattle.std.specs.declared.cmp.Ordering.TheVariants.{Less, Equal, Greater}
use Rattle.std.proofs.Common.{refl}
use Rattle.std.proofs.lemmas.Cmp.{on_total, then_total}
use Rattle.tap_name.specs.Name.{Name}
use Rattle.tap_name.specs.Order.{name_cmp}
use Rattle.tap_pointer.specs.declared.pair.Pair.{Pair}

-- an object: the name of one
abbrev pub Object : Type 0
Object = Name

-- pairs are ordered by object, then server
abbrev pub pair_cmp : Pair → Pair → Ordering
pair_cmp a b = ordering_then (name_cmp a.object b.object) (name_cmp a.server b.server)

pub pair_cmp-total : IsTotalOrder pair_cmp
pair_cmp-total = then_total (on_total (λ p. p.object) nat_list_cmp_total) (on_total (λ p. p.server) nat_list_cmp_total)

pub pair_cmp-ties : (a b : Pair) → (pointwise nat_eq a.object b.object && pointwise nat_eq a.server b.server) ≡ is_eq (pair_cmp a b)
pair_cmp-ties a b = rw (texts_ties a.object b.object, texts_ties a.server b.server) (both (name_cmp a.object b.object))
  where
    both : (first : Ordering) → (is_eq first && is_eq (name_cmp a.server b.server))
        ≡ is_eq (ordering_then first (name_cmp a.server b.server))
    both Less = refl
    both Equal = refl
    both Greater = refl
