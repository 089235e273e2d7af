-- What stands in places that each have something in them.
use Rattle.std.proofs.Common.{◌≡◌, ℕ, ◌<◌, List, [], ◌∷◌, length, map, insert, remove, set, get_or, slice_get, Option, None, Some, arith, zero, suc, refl, sym, ap, ◌∙◌, take}
use Rattle.std.proofs.lemmas.List.{map-append, take-map, drop-map, map-set}
use Rattle.tap_link.specs.Places.{present}

module _ {X : Type 0} where
  present-map : (xs : List X) → present (map Some xs) ≡ xs
  present-map [] = refl
  present-map (x ∷ xs) = ap (λ l. x ∷ l) (present-map xs)

  -- places that hold a list show it, and have something in each
  pub present_is : (places : List (Option X)) (xs : List X) → places ≡ map Some xs → present places ≡ xs
  present_is places xs is = ap present is ∙ present-map xs

  pub full_is : (places : List (Option X)) (xs : List X) → places ≡ map Some xs → places ≡ map Some (present places)
  full_is places xs is = is ∙ ap (map Some) (sym (present_is places xs is))

  -- full places hold the list that they show
  pub holds : (places : List (Option X)) (xs : List X) → places ≡ map Some (present places) → present places ≡ xs → places ≡ map Some xs
  holds places xs full shown = full ∙ ap (map Some) shown

  -- edits of places that hold a list
  pub insert_is : (places : List (Option X)) (xs : List X) (at : ℕ) (x : X) → places ≡ map Some xs
      → insert places at (Some x) ≡ map Some (insert xs at x)
  insert_is places xs at x is = rw is (simp (take-map, drop-map, map-append))

  pub remove_is : (places : List (Option X)) (xs : List X) (at : ℕ) → places ≡ map Some xs → remove places at ≡ map Some (remove xs at)
  remove_is places xs at is = rw is (simp (take-map, drop-map, map-append))

  pub take_is : (places : List (Option X)) (xs : List X) (n : ℕ) → places ≡ map Some xs → take n places ≡ map Some (take n xs)
  take_is places xs n is = rw is (take-map Some n xs)

  pub set_is : (places : List (Option X)) (xs : List X) (at : ℕ) (x : X) → places ≡ map Some xs
      → set places at (Some x) ≡ map Some (set xs at x)
  set_is places xs at x is = rw is (sym (map-set Some xs at x))

  get_or-map_some : (xs : List X) (at : ℕ) (o : Option X) → at < length xs → get_or (map Some xs) at o ≡ slice_get xs at
  get_or-map_some [] at o within = absurd (omega arith)
  get_or-map_some (x ∷ xs) zero o within = refl
  get_or-map_some (x ∷ xs) (suc at) o within = get_or-map_some xs at o (omega arith)

  -- a place holds what the list has there
  pub place_is : (places : List (Option X)) (xs : List X) (at : ℕ) (o : Option X) → places ≡ map Some xs → at < length xs
      → o ≡ get_or places at o → slice_get xs at ≡ o
  place_is places xs at o is within read =
      sym (read ∙ ap (λ l. get_or l at o) is ∙ get_or-map_some xs at o within)

  -- within a list there is something at each place
  pub never_none : (xs : List X) (at : ℕ) → at < length xs → slice_get xs at ≡ None → ⊥
  never_none [] at within none = absurd (omega arith)
  never_none (x ∷ xs) zero within none = cc
  never_none (x ∷ xs) (suc at) within none = never_none xs at (omega arith) none

  never_empty : (xs : List X) (at : ℕ) → slice_get (map Some xs) at ≡ Some None → ⊥
  never_empty [] at empty = cc
  never_empty (x ∷ xs) zero empty = cc
  never_empty (x ∷ xs) (suc at) empty = never_empty xs at empty

  -- no place of full places is empty
  pub never_empty_at : (places : List (Option X)) (at : ℕ) → places ≡ map Some (present places) → slice_get places at ≡ Some None → ⊥
  never_empty_at places at full empty =
      never_empty (present places) at (sym (ap (λ l. slice_get l at) full) ∙ empty)

  -- what is got from a list stands there
  pub get_or_from_got : (xs : List X) (at : ℕ) (x d : X) → slice_get xs at ≡ Some x → get_or xs at d ≡ x
  get_or_from_got [] at x d got = cc
  get_or_from_got (y ∷ ys) zero x d got = cc
  get_or_from_got (y ∷ ys) (suc at) x d got = get_or_from_got ys at x d got

  pub within_from_got : (xs : List X) (at : ℕ) (x : X) → slice_get xs at ≡ Some x → at < length xs
  within_from_got [] at x got = cc
  within_from_got (y ∷ ys) zero x got = omega arith
  within_from_got (y ∷ ys) (suc at) x got = let within : at < length ys = within_from_got ys at x got in omega arith
