-- The targets of a table by name: they ascend, are all that have a link, and are no more than the rows.
-- Cited above: few_by_name, linked_is_target, target_is_linked, targets-ascending
use Rattle.std.proofs.Common.{◌≡◌, ℕ, ◌≤◌, zero, suc, Some, List, [], ◌∷◌, length, map, slice_get, All, arith, ap, sym, ◌∙◌, inl, inr}
use Rattle.std.proofs.lemmas.List.{get_or-map, length-map}
use Rattle.std.proofs.lemmas.List.Elements.{All-head, All-tail}
use Rattle.tap_name.specs.Names.{Among}
use Rattle.tap_name.specs.Order.{AreAscending}
use Rattle.tap_name.proofs.Membership.{few_among}
use Rattle.tap_name.proofs.Sorted.{distinct-from_ascending}
use Rattle.tap_link.specs.declared.kind.Kind.{Kind}
use Rattle.tap_link.specs.declared.kind.Kind.TheVariants.{Settled}
use Rattle.tap_link.specs.Entry.{LinkEntry}
use Rattle.tap_table.specs.ByName.{by_name, targets_by_name, targets_of}
use Rattle.tap_table.specs.Table.{IsTable, Row, SlotLinks, TableValue, kind_in, rows}
use Rattle.tap_table.proofs.ByName.{by_name-ascending, by_name_is_found, found_by_name}
use Rattle.tap_table.proofs.Found.{link_to}
use Rattle.tap_table.proofs.Listed.{found_has_row}

among_row : (all : List Row) (i : ℕ) (row : Row) → slice_get all i ≡ Some row → Among row.entry.target (map (λ r. r.entry.target) all)
among_row [] i row got = cc
among_row (r ∷ all) zero row got =
    let same : r ≡ row = cc in
    inl (ap (λ (x : Row). x.entry.target) (sym same))
among_row (r ∷ all) (suc i) row got = inr (among_row all i row got)

among_link : (links : SlotLinks) (i : ℕ) (e : LinkEntry (List ℕ)) → slice_get links i ≡ Some e → Among e.target (targets_of links)
among_link [] i e got = cc
among_link (f ∷ links) zero e got =
    let same : f ≡ e = cc in
    inl (ap (λ (x : LinkEntry (List ℕ)). x.target) (sym same))
among_link (f ∷ links) (suc i) e got = inr (among_link links i e got)

module _ (t : TableValue) where
  -- a target of links that look-ups find has a kind
  pub found_target : (links : SlotLinks) (name : List ℕ) → All (λ e. kind_in t e.target ≡ Some e.kind) links
      → Among name (targets_of links) → (kind : Kind) × (kind_in t name ≡ Some kind)
  found_target [] name found among = absurd among
  found_target (e ∷ links) name found (inl same) =
      (e.kind, ap (kind_in t) same ∙ All-head (λ f. kind_in t f.target ≡ Some f.kind) e links found)
  found_target (e ∷ links) name found (inr later) =
      found_target links name (All-tail (λ f. kind_in t f.target ≡ Some f.kind) e links found) later

  module _ (valid : IsTable t) where
    -- the targets by name are all names that have a link
    pub target_is_linked : (name : List ℕ) → Among name (targets_by_name t) → (kind : Kind) × (kind_in t name ≡ Some kind)
    target_is_linked name among = found_target (by_name t) name (by_name_is_found t valid) among

    pub linked_is_target : (name : List ℕ) (kind : Kind) → kind_in t name ≡ Some kind → Among name (targets_by_name t)
    linked_is_target name kind found =
        let link = found_by_name t valid name kind found in among_link (by_name t) link.0 (link_to name kind) link.1

    -- the targets by name ascend
    pub targets-ascending : AreAscending (targets_by_name t)
    targets-ascending i j d before within =
        let links = by_name t in
        let len = length-map links (λ (e : LinkEntry (List ℕ)). e.target) in
        let e : LinkEntry (List ℕ) = record { target = d; kind = Settled } in
        let at_i = get_or-map (λ (f : LinkEntry (List ℕ)). f.target) links i e d (omega arith) in
        let at_j = get_or-map (λ (f : LinkEntry (List ℕ)). f.target) links j e d (omega arith) in
        rw (at_i, at_j) (by_name-ascending t valid i j e before (omega arith))

    pub few_by_name : length (targets_by_name t) ≤ length (rows t)
    few_by_name =
        let len = length-map (rows t) (λ r. r.entry.target) in
        let few = few_among (targets_by_name t) (map (λ r. r.entry.target) (rows t)) (distinct-from_ascending (targets_by_name t) targets-ascending) (λ name among.
        let kind = found_target (by_name t) name (by_name_is_found t valid) among in
        let row = found_has_row t valid name kind.0 kind.1 in
        among_row (rows t) row.0 _ row.1) in
        omega (arith, len, few)
