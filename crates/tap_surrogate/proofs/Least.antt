-- the first core target of a slot is the least one
use Rattle.std.proofs.Common.{◌≡◌, inl, inr, ℕ, ◌<◌, Bool, None, Some, List, [], ◌∷◌, length, nat_eq, map, filter, AllPairs, arith, sym, refl, ap, subst, ◌∙◌, eqb}
use Rattle.std.specs.List.{common_prefix_len}
use Rattle.std.specs.Ordering.{ordering_reverse}
use Rattle.std.specs.declared.cmp.Ordering.TheVariants.{Less, Greater}
use Rattle.std.proofs.lemmas.Bool.{cases_Bool}
use Rattle.std.proofs.lemmas.Cmp.{nat_list_cmp_total}
use Rattle.std.proofs.lemmas.List.{get_or-map, length-map}
use Rattle.std.proofs.lemmas.List.Kept.{AllPairs-filter}
use Rattle.tap_name.specs.declared.slot.Slot.{Slot}
use Rattle.tap_name.specs.Slot.{Fits}
use Rattle.tap_name.specs.Root.{Among, first_of}
use Rattle.tap_link.specs.declared.kind.Kind.TheVariants.{Settled}
use Rattle.tap_link.specs.Entry.{LinkEntry}
use Rattle.tap_link.specs.LinkSet.{LinksAscend}
use Rattle.tap_name.proofs.Names.{among-All}
use Rattle.tap_table.specs.Members.{IsBelow}
use Rattle.tap_table.proofs.Least.{below_later}
use Rattle.tap_table.specs.Table.{IsTable, SlotLinks, TableValue, links_at, name_cmp, place_of}
use Rattle.tap_surrogate.specs.Nodes.{IsLeastLink, Nodes, core_links}
use Rattle.tap_surrogate.proofs.CoreLinks.{core_links_of}
use Rattle.tap_surrogate.proofs.Standing.{core_link_fits}

-- the targets of ascending links ascend
targets_ascend : (links : SlotLinks) → LinksAscend name_cmp links → AllPairs IsBelow (map (λ e. e.target) links)
targets_ascend links ascending = λ i j d before within.
    let target = λ (e : LinkEntry (List ℕ)). e.target in
    let none : LinkEntry (List ℕ) = record { target = d; kind = Settled } in
    let len = length-map links target in
    let inside : j < length links = omega (arith, len, within) in
    let earlier : i < length links = omega arith in
    rw (get_or-map target links i none d earlier, get_or-map target links j none d inside) (ascending i j none before inside)

-- of two names at most one is below the other
not_both : (a b : List ℕ) → IsBelow a b → IsBelow b a → ⊥
not_both a b ab ba =
    let back : name_cmp b a ≡ Greater = nat_list_cmp_total.antisymm b a ∙ ap ordering_reverse ab in
    let wrong : Greater ≡ Less = sym back ∙ ba in cc

first_of_ascending : (names : List (List ℕ)) (to other : List ℕ) → AllPairs IsBelow names → first_of names ≡ Some to → Among other names
    → IsBelow other to → ⊥
first_of_ascending [] to other ascending first among below = absurd among
first_of_ascending (x ∷ xs) to other ascending first among below =
    let here : x ≡ to = cc in
    let below_x : IsBelow other x = subst (IsBelow other) (sym here) below in
    elim among [
      | inl is ↦ let itself : IsBelow x x = subst (λ y. IsBelow y x) is below_x in not_both x x itself itself
      | inr later ↦ not_both x other (among-All (IsBelow x) xs (below_later x xs ascending) other later) below_x
    ]

pub first_is_least : (core : List ℕ → Bool) (links : SlotLinks) (to : List ℕ) → LinksAscend name_cmp links
    → first_of (filter core (map (λ e. e.target) links)) ≡ Some to
    → (other : List ℕ) → Among other (filter core (map (λ e. e.target) links)) → IsBelow other to → ⊥
first_is_least core links to ascending first other among below =
    let targets : List (List ℕ) = map (λ e. e.target) links in
    let pairs = AllPairs-filter IsBelow core targets (targets_ascend links ascending) in
    first_of_ascending (filter core targets) to other pairs first among below

pub first_among : (names : List (List ℕ)) (to : List ℕ) → first_of names ≡ Some to → Among to names
first_among [] to first = let wrong : None ≡ Some to = first in cc
first_among (x ∷ xs) to first = let here : x ≡ to = cc in inl (sym here)

-- what fits a slot has its place there
pub place_where_it_fits : (a b : List ℕ) (slot : Slot) → Fits a b slot → place_of a b ≡ slot
place_where_it_fits a b slot fits = elim (cases_Bool (eqb (common_prefix_len nat_eq a b) (length a))) [
  | inl e ↦ let wrong : None ≡ Some slot = rw e at fits in cc
  | inr e ↦ let is : Some (place_of a b) ≡ Some slot = rw e at fits in cc
]

-- a hop from a node leads to the least core node of one slot of its table
pub hop_is_least : (nodes : Nodes) (table : TableValue) (level digit : ℕ) (links : SlotLinks) (to : List ℕ) → IsTable table
    → nodes.table_of table.owner ≡ Some table → digit < table.settings.base
    → links ≡ links_at table (record { level = level; digit = digit })
    → Some to ≡ first_of (filter nodes.core (map (λ e. e.target) links))
    → ((other : List ℕ) → Among other (filter nodes.core (map (λ e. e.target) links)) → IsBelow other to → ⊥)
    → IsLeastLink nodes table.owner to
hop_is_least nodes table level digit links to valid has below same first least =
    let slot : Slot = record { level = level; digit = digit } in
    let are = core_links_of nodes table table.owner slot links has below same in
    let linked : Among to (core_links nodes table.owner slot) = subst (Among to) are (first_among _ to (sym first)) in
    let fits = (core_link_fits nodes table table.owner slot to valid refl has linked).0 in
    let place = sym (place_where_it_fits table.owner to slot fits) in
    let P : Slot → Type 0 = λ s. Among to (core_links nodes table.owner s) in
    let Q : Slot → Type 0 = λ s. (other : List ℕ) → Among other (core_links nodes table.owner s) → IsBelow other to → ⊥ in
    record {
      linked = subst P place linked;
      least = subst Q place (λ other among. least other (subst (Among other) (sym are) among));
    }
