-- What a filter keeps and what a look-up finds, in a list and in two lists together.
-- Cited above: AllPairs-append
use Rattle.std.proofs.Common.{◌≡◌, ℕ, ◌<◌, ◌≤◌, true, false, Bool, List, [], ◌∷◌, ◌++◌, length, take, drop, zero, suc, Option, None, Some, refl, ap, arith, slice_get, find}
use Rattle.std.specs.List.{AllWithin, HoldsAt, filter, All, AllPairs}
use Rattle.std.specs.Option.{option_or}
use Rattle.std.proofs.lemmas.List.Elements.{All-append}
use Rattle.std.proofs.lemmas.List.Kept.{AllPairs-cons}

-- what a filter keeps where the elements that pass are the first ones
pub filter_first : {X : Type 0} (p : X → Bool) (xs : List X) (at : ℕ) → at ≤ length xs → AllWithin (λ x. p x ≡ true) xs 0 at
    → AllWithin (λ x. p x ≡ false) xs at (length xs) → filter p xs ≡ take at xs
filter_first p [] zero within pass fail = refl
filter_first p [] (suc at) within pass fail = absurd (omega arith)
filter_first p (x ∷ xs) zero within pass fail =
    rw (fail 0 x (omega arith) (omega arith))
    (filter_first p xs zero (omega arith) (λ k d low high. absurd (omega arith))
    (λ k d low high. fail (suc k) d (omega arith) (omega arith)))
filter_first p (x ∷ xs) (suc at) within pass fail =
    rw (pass 0 x (omega arith) (omega arith))
    (ap (λ l. x ∷ l) (filter_first p xs at (omega arith) (λ k d low high. pass (suc k) d (omega arith) (omega arith))
    (λ k d low high. fail (suc k) d (omega arith) (omega arith))))

-- and where they are the last ones
pub filter_last : {X : Type 0} (p : X → Bool) (xs : List X) (at : ℕ) → AllWithin (λ x. p x ≡ false) xs 0 at
    → AllWithin (λ x. p x ≡ true) xs at (length xs) → filter p xs ≡ drop at xs
filter_last p [] zero fail pass = refl
filter_last p [] (suc at) fail pass = refl
filter_last p (x ∷ xs) zero fail pass =
    rw (pass 0 x (omega arith) (omega arith))
    (ap (λ l. x ∷ l) (filter_last p xs zero (λ k d low high. absurd (omega arith))
    (λ k d low high. pass (suc k) d (omega arith) (omega arith))))
filter_last p (x ∷ xs) (suc at) fail pass =
    rw (fail 0 x (omega arith) (omega arith))
    (filter_last p xs at (λ k d low high. fail (suc k) d (omega arith) (omega arith))
    (λ k d low high. pass (suc k) d (omega arith) (omega arith)))

-- what is found first, and that nothing is found where all fail
pub find_first : {X : Type 0} (p : X → Bool) (xs : List X) (at : ℕ) → at < length xs → AllWithin (λ x. p x ≡ false) xs 0 at
    → HoldsAt (λ x. p x ≡ true) xs at → find p xs ≡ slice_get xs at
find_first p [] at within fail pass = absurd (omega arith)
find_first p (x ∷ xs) zero within fail pass = rw (pass x) refl
find_first p (x ∷ xs) (suc at) within fail pass =
    rw (fail 0 x (omega arith) (omega arith)) (find_first p xs at (omega arith)
    (λ k d low high. fail (suc k) d (omega arith) (omega arith)) pass)

pub find_nothing : {X : Type 0} (p : X → Bool) (xs : List X) → AllWithin (λ x. p x ≡ false) xs 0 (length xs) → find p xs ≡ None
find_nothing p [] fail = refl
find_nothing p (x ∷ xs) fail =
    rw (fail 0 x (omega arith) (omega arith)) (find_nothing p xs (λ k d low high. fail (suc k) d (omega arith) (omega arith)))

-- each element of one list is in the relation with each of another
pub AllPairs-append : {X : Type 0} (R : X → X → Type 0) (xs ys : List X) → AllPairs R xs → AllPairs R ys → All (λ x. All (R x) ys) xs
    → AllPairs R (xs ++ ys)
AllPairs-append R [] ys front back across = back
AllPairs-append R (x ∷ xs) ys front back across =
    AllPairs-cons R x (xs ++ ys)
    (All-append (R x) xs ys (λ k d h. front 0 (suc k) d (omega arith) (omega arith)) (across 0 x (omega arith)))
    (AllPairs-append R xs ys (λ i j d lt h. front (suc i) (suc j) d (omega arith) (omega arith)) back
    (λ k d h. across (suc k) d (omega arith)))

-- a filter that lets pass whatever is looked for, and one that lets none of it pass
pub find-filter_all : {X : Type 0} (p q : X → Bool) → ((x : X) → p x ≡ true → q x ≡ true) → (xs : List X) → find p (filter q xs) ≡ find p xs
find-filter_all p q pass [] = refl
find-filter_all p q pass (x ∷ xs) = step (p x) (q x) refl refl (find-filter_all p q pass xs)
  where
    step : (found kept : Bool) → p x ≡ found → q x ≡ kept → find p (filter q xs) ≡ find p xs → find p (filter q (x ∷ xs)) ≡ find p (x ∷ xs)
    step true kept is keeps rest = rw (pass x is, is) refl
    step false true is keeps rest = rw (keeps, is) rest
    step false false is keeps rest = rw (keeps, is) rest

pub find-filter_none : {X : Type 0} (p q : X → Bool) → ((x : X) → p x ≡ true → q x ≡ false) → (xs : List X) → find p (filter q xs) ≡ None
find-filter_none p q pass [] = refl
find-filter_none p q pass (x ∷ xs) = step (p x) (q x) refl refl (find-filter_none p q pass xs)
  where
    step : (found kept : Bool) → p x ≡ found → q x ≡ kept → find p (filter q xs) ≡ None → find p (filter q (x ∷ xs)) ≡ None
    step true kept is keeps rest = rw (pass x is) rest
    step false true is keeps rest = rw (keeps, is) rest
    step false false is keeps rest = rw keeps rest

pub option_or-none : {X : Type 0} (found : Option X) → option_or found None ≡ found
option_or-none None = refl
option_or-none (Some x) = refl

-- two tests that answer alike find the same
pub find-alike : {X : Type 0} (p q : X → Bool) → ((x : X) → p x ≡ q x) → (xs : List X) → find p xs ≡ find q xs
find-alike p q alike [] = refl
find-alike p q alike (x ∷ xs) = rw (alike x, find-alike p q alike xs) refl

-- what is found passes
pub find_passes : {X : Type 0} (p : X → Bool) (xs : List X) (x : X) → find p xs ≡ Some x → p x ≡ true
find_passes p [] x found = cc
find_passes p (y ∷ ys) x found = step (p y) refl (find_passes p ys x)
  where
    step : (b : Bool) → p y ≡ b → (find p ys ≡ Some x → p x ≡ true) → p x ≡ true
    step true pass later =
        let here : Some y ≡ Some x = rw pass at found in
        let same : y ≡ x = cc in
        rw (← same) pass
    step false fail later = later (rw fail at found)

-- what holds of each element holds of what is found
pub find_All : {X : Type 0} (p : X → Bool) (P : X → Type 0) (xs : List X) (x : X) → All P xs → find p xs ≡ Some x → P x
find_All p P [] x all found = absurd cc
find_All p P (y ∷ ys) x all found = step (p y) refl (find_All p P ys x (λ k d h. all (suc k) d (omega arith)))
  where
    step : (b : Bool) → p y ≡ b → (find p ys ≡ Some x → P x) → P x
    step true pass later =
        let here : Some y ≡ Some x = rw pass at found in
        let same : y ≡ x = cc in
        rw (← same) (all 0 y (omega arith))
    step false fail later = later (rw fail at found)

-- what holds from the first element on
pub AllWithin-first : {X : Type 0} (P : X → Type 0) (x : X) (xs : List X) (at : ℕ) → P x → AllWithin P xs 0 at
    → AllWithin P (x ∷ xs) 0 (suc at)
AllWithin-first P x xs at here rest zero d low high = here
AllWithin-first P x xs at here rest (suc k) d low high = rest k d (omega arith) (omega arith)

pub AllWithin-later : {X : Type 0} (P : X → Type 0) (x : X) (xs : List X) (at : ℕ) → AllWithin P xs at (length xs)
    → AllWithin P (x ∷ xs) (suc at) (length (x ∷ xs))
AllWithin-later P x xs at rest zero d low high = absurd (omega arith)
AllWithin-later P x xs at rest (suc k) d low high = rest k d (omega arith) (omega arith)
