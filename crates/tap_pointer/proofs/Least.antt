-- A lookup gives the least server of the pairs that are held, and none exactly if no pair of the object is held.
use Rattle.std.proofs.Common.{◌≡◌, ℕ, true, false, List, [], ◌∷◌, None, Some, sym, ap, ◌∙◌, inl, inr}
use Rattle.std.specs.List.{All, AllByRecursion}
use Rattle.std.specs.List.Sorted.{IsStrictlySortedBy}
use Rattle.std.specs.Map.{keys_of}
use Rattle.std.specs.Option.{unwrap_or}
use Rattle.std.specs.Ordering.{is_gt}
use Rattle.std.specs.declared.cmp.Ordering.TheVariants.{Less, Equal}
use Rattle.std.proofs.lemmas.Bool.{cases_Bool}
use Rattle.std.proofs.lemmas.List.Elements.{All-cons, All-nil}
use Rattle.std.proofs.lemmas.Map.Keys.{sorted_head, sorted_tail}
use Rattle.tap_name.specs.Order.{name_cmp}
use Rattle.tap_name.proofs.Orders.{name_cmp-itself}
use Rattle.tap_pointer.specs.declared.pair.Pair.{Pair}
use Rattle.tap_pointer.specs.declared.state.PairState.{PairState}
use Rattle.tap_pointer.specs.Pair.{pair_cmp}
use Rattle.tap_pointer.specs.Pointers.{held_among, is_held, is_of, server_among}
use Rattle.tap_pointer.proofs.Lookups.{of_is, server-first, server-not_held, server-other}

module _ (object : List ℕ) where
  -- a pair whose server isn't below this one, if it is one of the object
  abbrev pub IsNotBelow : List ℕ → Pair → Type 0
  IsNotBelow server pair = is_of object pair ≡ true → is_gt (name_cmp server pair.server) ≡ false

  -- of two pairs of the object in order, the second has the greater server
  not_below : (first second : Pair) → is_of object first ≡ true → pair_cmp first second ≡ Less → IsNotBelow first.server second
  not_below first second first_of below second_of =
      let same : first.object ≡ second.object = of_is object first first_of ∙ sym (of_is object second second_of) in
      let tied : name_cmp first.object second.object ≡ Equal =
      ap (λ o. name_cmp o second.object) same ∙ name_cmp-itself second.object in
      let servers : name_cmp first.server second.server ≡ Less = rw tied at below in
      ap is_gt servers

  later_not_below : (first : Pair) → is_of object first ≡ true → (pairs : List (Pair × PairState))
      → AllByRecursion (λ key. pair_cmp first key ≡ Less) (keys_of pairs) → All (IsNotBelow first.server) (held_among pairs)
  later_not_below first of [] above = All-nil (IsNotBelow first.server)
  later_not_below first of (e ∷ pairs) above =
      elim (cases_Bool (is_held e.1)) [
        | inl held ↦
            rw held (All-cons (IsNotBelow first.server) e.0 (held_among pairs) (not_below first e.0 of above.0)
            (later_not_below first of pairs above.1))
        | inr apart ↦ rw apart (later_not_below first of pairs above.1)
      ]

  -- the server of a lookup is the least
  pub server_least : (pairs : List (Pair × PairState)) (server : List ℕ) → IsStrictlySortedBy pair_cmp (keys_of pairs)
      → server_among pairs object ≡ Some server → All (IsNotBelow server) (held_among pairs)
  server_least [] server sorted found = let wrong : None ≡ Some server = found in absurd (cc)
  server_least (e ∷ pairs) server sorted found =
      let others = sorted_tail pair_cmp e.0 (keys_of pairs) sorted in
      elim (cases_Bool (is_held e.1)) [
        | inl held ↦
            elim (cases_Bool (is_of object e.0)) [
              | inl of ↦
                  let is : Some e.0.server ≡ Some server = sym (server-first object e pairs held of) ∙ found in
                  let same : e.0.server ≡ server = ap (λ o. unwrap_or o server) is in
                  let itself : is_gt (name_cmp e.0.server e.0.server) ≡ false = ap is_gt (name_cmp-itself e.0.server) in
                  let later = later_not_below e.0 of pairs (sorted_head pair_cmp e.0 (keys_of pairs) sorted) in
                  rw (held, ← same) (All-cons (IsNotBelow e.0.server) e.0 (held_among pairs) (λ same_object. itself) later)
              | inr other ↦
                  let rest = server_least pairs server others (sym (server-other object e pairs other) ∙ found) in
                  rw held (All-cons (IsNotBelow server) e.0 (held_among pairs)
                  (λ of. let wrong : true ≡ false = sym of ∙ other in absurd (cc)) rest)
            ]
        | inr apart ↦ rw apart (server_least pairs server others (sym (server-not_held object e pairs apart) ∙ found))
      ]

  -- a lookup that finds no server, and only that, is one of an object of which no pair is held
  pub server_none : (pairs : List (Pair × PairState)) → server_among pairs object ≡ None
      → All (λ pair. is_of object pair ≡ false) (held_among pairs)
  server_none [] none = All-nil (λ pair. is_of object pair ≡ false)
  server_none (e ∷ pairs) none =
      elim (cases_Bool (is_held e.1)) [
        | inl held ↦
            elim (cases_Bool (is_of object e.0)) [
              | inl of ↦ let wrong : Some e.0.server ≡ None = sym (server-first object e pairs held of) ∙ none in absurd (cc)
              | inr other ↦
                  rw held (All-cons (λ pair. is_of object pair ≡ false) e.0 (held_among pairs) other
                  (server_none pairs (sym (server-other object e pairs other) ∙ none)))
            ]
        | inr apart ↦ rw apart (server_none pairs (sym (server-not_held object e pairs apart) ∙ none))
      ]
