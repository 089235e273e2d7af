-- The words of a node's end: one for each node that it has a link to, that there is none any more.
-- Cited above: length-off_ties, linked_is_let_go
use Rattle.std.proofs.Common.{◌≡◌, ℕ, ◌+◌, zero, suc, false, Some, List, [], ◌∷◌, length, slice_get, arith, ap, sym, refl, ◌∙◌}
use Rattle.std.specs.Option.{option_map}
use Rattle.std.proofs.lemmas.Option.{get_or_from_slice_get, slice_get-map, slice_get_within}
use Rattle.tap_name.proofs.Names.{among_item}
use Rattle.tap_link.specs.declared.kind.Kind.{Kind}
use Rattle.tap_link.specs.Entry.{LinkEntry}
use Rattle.tap_table.specs.declared.tie.Tie.{Tie}
use Rattle.tap_table.specs.ByName.{by_name, targets_by_name}
use Rattle.tap_table.specs.Table.{IsTable, TableValue, kind_in}
use Rattle.tap_table.specs.Ties.{off_ties}
use Rattle.tap_table.proofs.ByName.{found_by_name}
use Rattle.tap_table.proofs.Targets.{target_is_linked}

-- each of some nodes is told once, with the next numbers
pub length-off_ties : (last : ℕ) (names : List (List ℕ)) → length (off_ties last names) ≡ length names
length-off_ties last [] = refl
length-off_ties last (name ∷ names) = ap (λ n. suc n) (length-off_ties (last + 1) names)

pub off_tie_at : (last : ℕ) (names : List (List ℕ)) (i : ℕ) (name : List ℕ) → slice_get names i ≡ Some name
    → slice_get (off_ties last names) i ≡ Some (record { to = name; version = last + i + 1; on = false })
off_tie_at last [] i name got = cc
off_tie_at last (n ∷ names) zero name got =
    let same : n ≡ name = cc in
    let to : List ℕ → Tie = λ x. record { to = x; version = last + 1; on = false } in
    let of_version : ℕ → Tie = λ v. record { to = name; version = v; on = false } in
    let version : last + 1 ≡ last + 0 + 1 = omega arith in
    ap (λ x. Some (to x)) same ∙ ap (λ v. Some (of_version v)) version
off_tie_at last (n ∷ names) (suc i) name got =
    let of_version : ℕ → Tie = λ v. record { to = name; version = v; on = false } in
    let version : last + 1 + i + 1 ≡ last + suc i + 1 = omega arith in
    off_tie_at (last + 1) names i name got ∙ ap (λ v. Some (of_version v)) version

target_let_go : (last : ℕ) (names : List (List ℕ)) (i : ℕ) (tie : Tie) → slice_get (off_ties last names) i ≡ Some tie
    → slice_get names i ≡ Some tie.to
target_let_go last [] i tie got = cc
target_let_go last (name ∷ names) zero tie got =
    let same : record { to = name; version = last + 1; on = false } ≡ tie = cc in
    ap (λ (t : Tie). Some t.to) same
target_let_go last (name ∷ names) (suc i) tie got = target_let_go (last + 1) names i tie got

-- so each node that has a link has its one word, and no other node has one
module _ (t : TableValue) (valid : IsTable t) (last : ℕ) where
  pub linked_is_let_go : (name : List ℕ) (kind : Kind) → kind_in t name ≡ Some kind
      → (i : ℕ) × (slice_get (off_ties last (targets_by_name t)) i ≡ Some (record { to = name; version = last + i + 1; on = false }))
  linked_is_let_go name kind found =
      let link = found_by_name t valid name kind found in
      let target : LinkEntry (List ℕ) → List ℕ = λ e. e.target in
      let got : slice_get (targets_by_name t) link.0 ≡ Some name =
      slice_get-map target (by_name t) link.0 ∙ ap (option_map target) link.1 in
      (link.0, off_tie_at last (targets_by_name t) link.0 name got)

  pub let_go_is_linked : (i : ℕ) (tie : Tie) → slice_get (off_ties last (targets_by_name t)) i ≡ Some tie
      → (kind : Kind) × (kind_in t tie.to ≡ Some kind)
  let_go_is_linked i tie got =
      let names = targets_by_name t in
      let target = target_let_go last names i tie got in
      let within = slice_get_within names i tie.to target in
      let read = get_or_from_slice_get names i tie.to tie.to target in
      target_is_linked t valid tie.to (among_item names i tie.to within (sym read))
