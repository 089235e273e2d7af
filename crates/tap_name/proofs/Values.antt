-- the values of many digits, and whether all are below a base
use Rattle.std.proofs.Common.{◌≡◌, ◌∙◌, ◌++◌, ◌∷◌, [], ℕ, ◌+◌, ◌<◌, ◌≤◌, List, length, get_or, map, set, take, take_all, nat_le, nat_lt, true, false, Some, position, arith, ap, sym, refl, inl, inr}
use Rattle.std.specs.List.{list_all, position_or_len}
use Rattle.std.proofs.lemmas.Bool.{cases_Bool, false≢true, leb-false, lt-ltb, ltb-false, ltb-true}
use Rattle.std.proofs.lemmas.List.{length-map, get_or-map, take_more, take_more_set}
use Rattle.std.proofs.lemmas.List.Sums.{AllPass-from_list_all, fails_before_first, list_all-from_AllPass}
use Rattle.tap_name.proofs.Read.{AreBelow}

-- one more value is written
pub map-more : (f : ℕ → ℕ) (xs places : List ℕ) (at : ℕ) → at < length xs → at < length places → take at places ≡ take at (map f xs)
    → take (at + 1) (set places at (f (get_or xs at 0))) ≡ take (at + 1) (map f xs)
map-more f xs places at more room is =
    let last = take_more (map f xs) at 0 (omega (arith, length-map xs f, more)) in
    take_more_set places at (f (get_or xs at 0)) room ∙ ap (λ (front : List ℕ). front ++ f (get_or xs at 0) ∷ []) is
    ∙ sym (last ∙ ap (λ (value : ℕ). take at (map f xs) ++ value ∷ []) (get_or-map f xs at 0 0 more))

-- all are written
pub map-all : (f : ℕ → ℕ) (xs places : List ℕ) (at : ℕ) → length xs ≤ at → length places ≡ length xs → take at places ≡ take at (map f xs)
    → places ≡ map f xs
map-all f xs places at end room is =
    sym (take_all at places (omega (arith, room, end))) ∙ is ∙ take_all at (map f xs) (omega (arith, length-map xs f, end))

module _ (base : ℕ) (digits : List ℕ) where
  pub each_below : list_all (λ digit. nat_lt digit base) digits ≡ true → AreBelow base digits (length digits)
  each_below all k inside = ltb-true (get_or digits k 0) base (AllPass-from_list_all (λ digit. nat_lt digit base) digits all k 0 inside)

  -- if not all are below the base, a first one isn't
  pub bad_found : list_all (λ digit. nat_lt digit base) digits ≡ false
      → (place : ℕ) × (position (λ digit. nat_le base digit) digits ≡ Some place)
  bad_found other =
      elim (cases_Bool (nat_lt (position_or_len (λ digit. nat_le base digit) digits) (length digits))) [
        | inl bad ↦ (position_or_len (λ digit. nat_le base digit) digits, rw bad refl)
        | inr none ↦
            let far : length digits ≤ position_or_len (λ digit. nat_le base digit) digits = ltb-false _ _ none in
            let all = list_all-from_AllPass (λ digit. nat_lt digit base) digits (λ k d h.
            lt-ltb (get_or digits k d) base (leb-false base (get_or digits k d)
            (fails_before_first (λ digit. nat_le base digit) digits k d (omega (arith, far, h))))) in
            absurd (false≢true (sym other ∙ all))
      ]
