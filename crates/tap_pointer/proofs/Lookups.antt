-- A lookup: the pairs of one object stand side by side, from where that of the empty name would stand.
-- Cited above: server-first, server-not_held, server-other
use Rattle.std.proofs.Common.{◌≡◌, ℕ, Bool, true, false, List, [], ◌∷◌, filter, None, Some, refl, sym, ap, ◌∙◌, inl, inr}
use Rattle.std.specs.Bool.{⊤}
use Rattle.std.specs.BTreeMap.Range.{range_contains}
use Rattle.std.specs.Cmp.Lexicographic.{nat_list_cmp_total, texts_ties}
use Rattle.std.specs.List.{All, AllByRecursion}
use Rattle.std.specs.List.Sorted.{IsStrictlySortedBy}
use Rattle.std.specs.Map.{keys_of}
use Rattle.std.specs.Ordering.{is_eq, is_le, ordering_reverse}
use Rattle.std.specs.declared.cmp.Ordering.{Ordering}
use Rattle.std.specs.declared.cmp.Ordering.TheVariants.{Less, Equal, Greater}
use Rattle.std.specs.declared.ops.Bound.TheVariants.{Included, Unbounded}
use Rattle.std.proofs.lemmas.Bool.{cases_Bool, false_from_ne_true}
use Rattle.std.proofs.lemmas.List.Elements.{All-cons, All-filter, All-head, All-nil, All-tail}
use Rattle.std.proofs.lemmas.Map.Keys.{sorted_head, sorted_tail}
use Rattle.tap_name.specs.Order.{name_cmp}
use Rattle.tap_name.proofs.Orders.{name_cmp-equal, name_cmp-itself}
use Rattle.tap_pointer.specs.declared.pair.Pair.{Pair}
use Rattle.tap_pointer.specs.declared.state.PairState.{PairState}
use Rattle.tap_pointer.specs.Pair.{pair_cmp}
use Rattle.tap_pointer.specs.Pointers.{is_held, is_of, server_among}

module _ (object : List ℕ) where
  -- the first pair is the answer if it is held and of the object, and else the answer is among the others
  pub server-first : (e : Pair × PairState) (pairs : List (Pair × PairState)) → is_held e.1 ≡ true → is_of object e.0 ≡ true
      → server_among (e ∷ pairs) object ≡ Some e.0.server
  server-first e pairs held of = rw (held, of) refl

  pub server-not_held : (e : Pair × PairState) (pairs : List (Pair × PairState)) → is_held e.1 ≡ false
      → server_among (e ∷ pairs) object ≡ server_among pairs object
  server-not_held e pairs apart = rw apart refl

  pub server-other : (e : Pair × PairState) (pairs : List (Pair × PairState)) → is_of object e.0 ≡ false
      → server_among (e ∷ pairs) object ≡ server_among pairs object
  server-other e pairs other =
      elim (cases_Bool (is_held e.1)) [
        | inl held ↦ rw (held, other) refl
        | inr apart ↦ rw apart refl
      ]

  pub server-none : (pairs : List (Pair × PairState)) → All (λ e. is_of object e.0 ≡ false) pairs → server_among pairs object ≡ None
  server-none [] all = refl
  server-none (e ∷ pairs) all =
      server-other e pairs (All-head (λ e. is_of object e.0 ≡ false) e pairs all)
      ∙ server-none pairs (All-tail (λ e. is_of object e.0 ≡ false) e pairs all)

  -- where the pairs of the object begin
  abbrev pub first_place : Pair
  first_place = record { object = object; server = [] }

  -- whether a pair is at that place or after it
  abbrev pub is_from : Pair × PairState → Bool
  is_from e = range_contains pair_cmp (Included first_place) Unbounded e.0

  -- the empty name is above no other
  least_name : (name : List ℕ) → is_le (name_cmp [] name) ≡ true
  least_name [] = refl
  least_name (digit ∷ name) = refl

  pub of_is : (pair : Pair) → is_of object pair ≡ true → pair.object ≡ object
  of_is pair of = name_cmp-equal pair.object object (sym (texts_ties pair.object object) ∙ of)

  -- a pair of the object isn't before that place
  from_if_of : (e : Pair × PairState) → is_of object e.0 ≡ true → is_from e ≡ true
  from_if_of e of =
      let tied : name_cmp object e.0.object ≡ Equal = ap (name_cmp object) (of_is e.0 of) ∙ name_cmp-itself object in
      rw (tied, least_name e.0.server) refl

  -- so nothing is lost by beginning there
  pub server-from : (pairs : List (Pair × PairState)) → server_among (filter is_from pairs) object ≡ server_among pairs object
  server-from [] = refl
  server-from (e ∷ pairs) = by_place (server-from pairs) (is_from e) refl
    where
      by_place : server_among (filter is_from pairs) object ≡ server_among pairs object → (from : Bool) → is_from e ≡ from
          → server_among (filter is_from (e ∷ pairs)) object ≡ server_among (e ∷ pairs) object
      by_place later true is =
          elim (cases_Bool (is_held e.1)) [
            | inl held ↦
                elim (cases_Bool (is_of object e.0)) [
                  | inl of ↦ rw (is, held, of) refl
                  | inr other ↦ rw (is, held, other) later
                ]
            | inr apart ↦ rw (is, apart) later
          ]
      by_place later false is =
          let other : is_of object e.0 ≡ false = false_from_ne_true (is_of object e.0)
          (λ of. let wrong : false ≡ true = sym is ∙ from_if_of e of in absurd (cc)) in
          rw is later ∙ sym (server-other e pairs other)

  -- once a pair isn't of the object, no later one is
  unfoldable pub AreGathered : List (Pair × PairState) → Type 0
  AreGathered [] = ⊤
  AreGathered (e ∷ pairs) = (is_of object e.0 ≡ false → All (λ later. is_of object later.0 ≡ false) pairs) × AreGathered pairs

  -- a pair after the place is not of the object: no pair after this one is
  none_later : (e : Pair × PairState) → is_from e ≡ true → is_of object e.0 ≡ false → (pairs : List (Pair × PairState))
      → AllByRecursion (λ key. pair_cmp e.0 key ≡ Less) (keys_of pairs) → All (λ later. is_of object later.0 ≡ false) pairs
  none_later e from other [] above = All-nil (λ later. is_of object later.0 ≡ false)
  none_later e from other (next ∷ pairs) above =
      All-cons (λ later. is_of object later.0 ≡ false) next pairs
      (false_from_ne_true (is_of object next.0) (λ of. by_order of (name_cmp object e.0.object) refl))
      (none_later e from other pairs above.1)
    where
      by_order : is_of object next.0 ≡ true → (order : Ordering) → name_cmp object e.0.object ≡ order → ⊥
      by_order of Less is =
          let back : name_cmp e.0.object object ≡ Greater =
          nat_list_cmp_total.antisymm e.0.object object ∙ ap ordering_reverse is in
          let order : name_cmp e.0.object next.0.object ≡ Greater = ap (name_cmp e.0.object) (of_is next.0 of) ∙ back in
          let wrong : Greater ≡ Less = rw order at above.0 in
          absurd (cc)
      by_order of Equal is =
          let same : e.0.object ≡ object = sym (name_cmp-equal object e.0.object (ap is_eq is)) in
          let tied : is_of object e.0 ≡ true = texts_ties e.0.object object ∙ ap (λ o. is_eq (name_cmp o object)) same
          ∙ ap is_eq (name_cmp-itself object) in
          let wrong : true ≡ false = sym tied ∙ other in
          absurd (cc)
      by_order of Greater is = let wrong : false ≡ true = rw is at from in absurd (cc)

  -- the pairs from the place on
  pub gathered-from : (pairs : List (Pair × PairState)) → IsStrictlySortedBy pair_cmp (keys_of pairs)
      → AreGathered (filter is_from pairs)
  unfolding AreGathered
  gathered-from [] sorted = tt
  gathered-from (e ∷ pairs) sorted =
      by_place (gathered-from pairs (sorted_tail pair_cmp e.0 (keys_of pairs) sorted)) (is_from e) refl
    where
      by_place : AreGathered (filter is_from pairs) → (from : Bool) → is_from e ≡ from → AreGathered (filter is_from (e ∷ pairs))
      by_place later true is =
          rw is (
            λ other. All-filter is_from (λ l. is_of object l.0 ≡ false) pairs
                (none_later e is other pairs (sorted_head pair_cmp e.0 (keys_of pairs) sorted)),
            later,
          )
      by_place later false is = rw is later

  pub gathered-first : (e : Pair × PairState) (pairs : List (Pair × PairState)) → AreGathered (e ∷ pairs)
      → is_of object e.0 ≡ false → server_among (e ∷ pairs) object ≡ None
  unfolding AreGathered
  gathered-first e pairs gathered other = server-other e pairs other ∙ server-none pairs (gathered.0 other)

  pub gathered-others : (e : Pair × PairState) (pairs : List (Pair × PairState)) → AreGathered (e ∷ pairs) → AreGathered pairs
  unfolding AreGathered
  gathered-others e pairs gathered = gathered.1
