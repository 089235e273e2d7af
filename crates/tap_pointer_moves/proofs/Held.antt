-- The least server that is held of an object is the server of a pair that is held, and there is none only if no pair of it is held.
use Rattle.std.proofs.Common.{◌≡◌, ◌⊎◌, ℕ, true, false, List, [], ◌∷◌, Option, None, Some, refl, ap, sym, ◌∙◌, inl, inr}
use Rattle.std.specs.BTreeMap.{is_at}
use Rattle.std.specs.List.Sorted.{IsStrictlySortedBy}
use Rattle.std.specs.Map.{keys_of, lookup}
use Rattle.std.specs.Option.{unwrap_or}
use Rattle.std.proofs.lemmas.Bool.{cases_Bool}
use Rattle.std.proofs.lemmas.Cmp.{tied_itself}
use Rattle.std.specs.Ordering.{eq_by_cmp, is_eq}
use Rattle.std.proofs.lemmas.Cmp.{eq_by_cmp_equiv}
use Rattle.std.proofs.lemmas.Map.{lookup-none}
use Rattle.std.proofs.lemmas.Map.Entries.{none_past_head}
use Rattle.std.proofs.lemmas.Map.Keys.{IsDistinct-from_sorted, sorted_tail}
use Rattle.std.proofs.lemmas.Slice.Eq.{bytes_eq-Decides}
use Rattle.tap_register.proofs.Orderings.{is_equal}
use Rattle.tap_pointer.specs.declared.pair.Pair.{Pair}
use Rattle.tap_pointer.specs.declared.state.PairState.{PairState}
use Rattle.tap_pointer.specs.Pair.{pair_cmp, pair_cmp-total}
use Rattle.tap_pointer.specs.Pointers.{is_held, is_of, nothing_known, pair_of, server_among, state_among}
use Rattle.tap_pointer.proofs.Known.{pair_cmp-equal}

-- a pair finds itself, and another one is passed over
finds_itself : (pair : Pair) (e : Pair × PairState) (es : List (Pair × PairState)) → e.0 ≡ pair → state_among (e ∷ es) pair ≡ e.1
finds_itself pair e es same =
    let here : is_at (pair_cmp pair) e.0 ≡ true = ap (λ q. is_eq (pair_cmp pair q)) same ∙ ap is_eq (tied_itself pair_cmp-total pair) in
    rw here refl

passes_over : (pair : Pair) (e : Pair × PairState) (es : List (Pair × PairState)) → (e.0 ≡ pair → ⊥)
    → state_among (e ∷ es) pair ≡ state_among es pair
passes_over pair e es apart =
    elim (cases_Bool (is_at (pair_cmp pair) e.0)) [
      | inl tied ↦ absurd (apart (sym (pair_cmp-equal pair e.0 (is_equal (pair_cmp pair e.0) tied))))
      | inr differ ↦ rw differ refl
    ]

-- a pair that is held, if another one stands first
found_later : (pair : Pair) (e : Pair × PairState) (es : List (Pair × PairState)) → IsStrictlySortedBy pair_cmp (keys_of (e ∷ es))
    → is_held (state_among es pair) ≡ true → e.0 ≡ pair → ⊥
found_later pair e es sorted held same =
    let tied : eq_by_cmp pair_cmp pair e.0 ≡ true = ap (λ q. is_eq (pair_cmp pair q)) same ∙ ap is_eq (tied_itself pair_cmp-total pair) in
    let past = none_past_head (eq_by_cmp_equiv pair_cmp-total) pair e es (IsDistinct-from_sorted pair_cmp (keys_of (e ∷ es)) sorted) tied in
    let none : lookup (is_at (pair_cmp pair)) es ≡ None = lookup-none (is_at (pair_cmp pair)) es past in
    let wrong : false ≡ true = sym (ap (λ found. is_held (unwrap_or found nothing_known)) none) ∙ held in
    cc

of_object : (object : List ℕ) (pair : Pair) → is_of object pair ≡ true → pair ≡ pair_of object pair.server
of_object object pair is = ap (λ o. pair_of o pair.server) ((bytes_eq-Decides pair.object object).0 is)

pub server_held : (object server : List ℕ) (es : List (Pair × PairState)) → IsStrictlySortedBy pair_cmp (keys_of es)
    → server_among es object ≡ Some server → is_held (state_among es (pair_of object server)) ≡ true
server_held object server [] sorted found = let wrong : ◌≡◌ {A = Option (List ℕ)} None (Some server) = found in absurd (cc)
server_held object server (e ∷ es) sorted found =
    by_test (cases_Bool (is_held e.1)) (cases_Bool (is_of object e.0))
    (λ later. server_held object server es (sorted_tail pair_cmp e.0 (keys_of es) sorted) later)
  where
    later_held : (e.0 ≡ pair_of object server → ⊥) → is_held (state_among es (pair_of object server)) ≡ true
        → is_held (state_among (e ∷ es) (pair_of object server)) ≡ true
    later_held apart held = ap is_held (passes_over (pair_of object server) e es apart) ∙ held

    by_test : (is_held e.1 ≡ true) ⊎ (is_held e.1 ≡ false) → (is_of object e.0 ≡ true) ⊎ (is_of object e.0 ≡ false)
        → (server_among es object ≡ Some server → is_held (state_among es (pair_of object server)) ≡ true)
        → is_held (state_among (e ∷ es) (pair_of object server)) ≡ true
    by_test (inl held) (inl of) later =
        let here : Some e.0.server ≡ Some server = rw (held, of) at found in
        let servers : e.0.server ≡ server = cc in
        let same : e.0 ≡ pair_of object server = of_object object e.0 of ∙ ap (pair_of object) servers in
        ap is_held (finds_itself (pair_of object server) e es same) ∙ held
    by_test (inl held) (inr other) later =
        let apart = λ (same : e.0 ≡ pair_of object server).
        let itself : is_of object e.0 ≡ true = ap (is_of object) same ∙ (bytes_eq-Decides object object).1 refl in
        let wrong : false ≡ true = sym other ∙ itself in
        absurd {A = ⊥} (cc) in
        later_held apart (later (rw (held, other) at found))
    by_test (inr none) of later =
        let there = later (rw none at found) in later_held (found_later (pair_of object server) e es sorted there) there

pub none_held : (object server : List ℕ) (es : List (Pair × PairState)) → server_among es object ≡ None
    → is_held (state_among es (pair_of object server)) ≡ true → ⊥
none_held object server [] none held = let wrong : false ≡ true = held in cc
none_held object server (e ∷ es) none held =
    elim (cases_Bool (is_at (pair_cmp (pair_of object server)) e.0)) [
      | inl tied ↦
          let same : pair_of object server ≡ e.0 =
          pair_cmp-equal (pair_of object server) e.0 (is_equal (pair_cmp (pair_of object server) e.0) tied) in
          let here : is_held e.1 ≡ true = rw tied at held in
          let of : is_of object e.0 ≡ true = ap (is_of object) (sym same) ∙ (bytes_eq-Decides object object).1 refl in
          let found : server_among (e ∷ es) object ≡ Some e.0.server = rw (here, of) refl in
          let wrong : ◌≡◌ {A = Option (List ℕ)} None (Some e.0.server) = sym none ∙ found in
          cc
      | inr apart ↦
          let later : is_held (state_among es (pair_of object server)) ≡ true = rw apart at held in
          none_held object server es (rest_none (cases_Bool (is_held e.1)) (cases_Bool (is_of object e.0))) later
    ]
  where
    rest_none : (is_held e.1 ≡ true) ⊎ (is_held e.1 ≡ false) → (is_of object e.0 ≡ true) ⊎ (is_of object e.0 ≡ false)
        → server_among es object ≡ None
    rest_none (inl is) (inl of) =
        let found : server_among (e ∷ es) object ≡ Some e.0.server = rw (is, of) refl in
        let wrong : ◌≡◌ {A = Option (List ℕ)} None (Some e.0.server) = sym none ∙ found in
        absurd (cc)
    rest_none (inl is) (inr other) = rw (is, other) at none
    rest_none (inr apart) of = rw apart at none
