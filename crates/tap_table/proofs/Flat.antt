-- What holds of the elements of a flat list, and of any two of them.
-- Cited above: All-flat_map, got-flat_map
use Rattle.std.proofs.Common.{◌≡◌, ℕ, ◌+◌, zero, suc, Some, List, [], ◌∷◌, length, get_or, slice_get, All, AllPairs, arith, ap, ◌∙◌}
use Rattle.std.specs.List.{flat_map}
use Rattle.std.proofs.lemmas.List.Elements.{All-append, All-head, All-nil, All-tail}
use Rattle.std.proofs.lemmas.Option.{slice_get_within}
use Rattle.tap_register.proofs.Lists.{AllPairs-append}
use Rattle.tap_table.proofs.RowLists.{slice_get_after, slice_get_front}

module _ {A X : Type 0} (f : A → List X) where
  pub All-flat_map : (P : X → Type 0) (xs : List A) → All (λ a. All P (f a)) xs → All P (flat_map f xs)
  All-flat_map P [] all = All-nil P
  All-flat_map P (a ∷ others) all =
      All-append P (f a) (flat_map f others) (All-head (λ b. All P (f b)) a others all)
      (All-flat_map P others (All-tail (λ b. All P (f b)) a others all))

  -- any two are related where those of one list are, and those of one list to those of each later one
  pub AllPairs-flat_map : (R : X → X → Type 0) (xs : List A) → All (λ a. AllPairs R (f a)) xs
      → AllPairs (λ a b. All (λ x. All (R x) (f b)) (f a)) xs → AllPairs R (flat_map f xs)
  AllPairs-flat_map R [] each pairs = λ i j d before within. absurd (omega arith)
  AllPairs-flat_map R (a ∷ others) each pairs =
      let later = AllPairs-flat_map R others (All-tail (λ b. AllPairs R (f b)) a others each)
      (λ i j d before within. pairs (suc i) (suc j) d (omega arith) (omega arith)) in
      AllPairs-append R (f a) (flat_map f others) (All-head (λ b. AllPairs R (f b)) a others each) later
      (λ k d within. All-flat_map (R (get_or (f a) k d)) others
      (λ j e inside. pairs 0 (suc j) e (omega arith) (omega arith) k d within))

  -- an element of one of the lists is one of the flat list
  pub got-flat_map : (xs : List A) (i : ℕ) (a : A) (j : ℕ) (x : X) → slice_get xs i ≡ Some a → slice_get (f a) j ≡ Some x
      → (k : ℕ) × (slice_get (flat_map f xs) k ≡ Some x)
  got-flat_map [] i a j x got inside = cc
  got-flat_map (y ∷ ys) zero a j x got inside =
      let same : y ≡ a = cc in
      let here : slice_get (f y) j ≡ Some x = ap (λ b. slice_get (f b) j) same ∙ inside in
      (j, slice_get_front (f y) (flat_map f ys) j (slice_get_within (f y) j x here) ∙ here)
  got-flat_map (y ∷ ys) (suc i) a j x got inside =
      let rest = got-flat_map ys i a j x got inside in
      (length (f y) + rest.0, slice_get_after (f y) (flat_map f ys) (length (f y) + rest.0) rest.0 (omega arith) ∙ rest.1)
