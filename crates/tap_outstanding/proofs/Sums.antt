-- Sums of the counts before a place, and what one less, or one more at the end, makes of them.
use Rattle.std.proofs.Common.{◌≡◌, ℕ, zero, suc, ◌+◌, ◌-◌, ◌<◌, ◌≤◌, List, [], ◌∷◌, ◌++◌, length, take, get_or, set, refl, ap, arith}
use Rattle.std.specs.List.{sum}
use Rattle.std.proofs.lemmas.List.{take-append-le}
use Rattle.std.proofs.lemmas.List.Sums.{sum_by-cons, sum_by-take-le}
use Rattle.tap_outstanding.specs.Levels.{sum_before}

-- 1 if a place stands before another, else 0
abbrev pub below : ℕ → ℕ → ℕ
below at zero = 0
below zero (suc i) = 1
below (suc at) (suc i) = below at i

pub below-lt : (at i : ℕ) → at < i → below at i ≡ 1
below-lt at zero lt = absurd (omega arith)
below-lt zero (suc i) lt = refl
below-lt (suc at) (suc i) lt = below-lt at i (omega arith)

pub below-ge : (at i : ℕ) → i ≤ at → below at i ≡ 0
below-ge at zero le = refl
below-ge zero (suc i) le = absurd (omega arith)
below-ge (suc at) (suc i) le = below-ge at i (omega arith)

pub sum-cons : (x : ℕ) (xs : List ℕ) → sum (x ∷ xs) ≡ x + sum xs
sum-cons x xs = sum_by-cons (λ y. y) x xs

pub sum-nothing : (i : ℕ) → sum_before [] i ≡ 0
sum-nothing i = let none = sum_by-take-le (λ (y : ℕ). y) [] i in omega (arith, none)

pub sum-monotone : (xs : List ℕ) (i j : ℕ) → i ≤ j → sum_before xs i ≤ sum_before xs j
sum-monotone [] i j le = omega (arith, sum-nothing i, sum-nothing j)
sum-monotone (x ∷ xs) zero j le = omega arith
sum-monotone (x ∷ xs) (suc i) zero le = absurd (omega arith)
sum-monotone (x ∷ xs) (suc i) (suc j) le =
    omega (arith, sum-monotone xs i j (omega arith), sum-cons x (take i xs), sum-cons x (take j xs))

pub sum-all : (xs : List ℕ) (i : ℕ) → length xs ≤ i → sum_before xs i ≡ sum xs
sum-all [] i le = sum-nothing i
sum-all (x ∷ xs) zero le = absurd (omega arith)
sum-all (x ∷ xs) (suc i) le = omega (arith, sum-all xs i (omega arith), sum-cons x (take i xs), sum-cons x xs)

-- one less at a place
pub sum-lowered : (xs : List ℕ) (at i : ℕ) → at < length xs → 1 ≤ get_or xs at 0
    → sum_before (set xs at (get_or xs at 0 - 1)) i + below at i ≡ sum_before xs i
sum-lowered [] at i within some = absurd (omega arith)
sum-lowered (x ∷ xs) zero zero within some = refl
sum-lowered (x ∷ xs) zero (suc i) within some = omega (arith, sum-cons (x - 1) (take i xs), sum-cons x (take i xs))
sum-lowered (x ∷ xs) (suc at) zero within some = refl
sum-lowered (x ∷ xs) (suc at) (suc i) within some =
    omega (arith, sum-lowered xs at i (omega arith) some, sum-cons x (take i (set xs at (get_or xs at 0 - 1))), sum-cons x (take i xs))

-- a count that is taken away leaves no more before any place
pub sum-cleared : (xs : List ℕ) (at i : ℕ) → sum_before (set xs at 0) i ≤ sum_before xs i
sum-cleared [] at i = omega arith
sum-cleared (x ∷ xs) at zero = omega arith
sum-cleared (x ∷ xs) zero (suc i) = omega (arith, sum-cons 0 (take i xs), sum-cons x (take i xs))
sum-cleared (x ∷ xs) (suc at) (suc i) =
    omega (arith, sum-cleared xs at i, sum-cons x (take i (set xs at 0)), sum-cons x (take i xs))

-- what is added at the end isn't before a place that was there
pub sum-pushed : (xs ys : List ℕ) (i : ℕ) → i ≤ length xs → sum_before (xs ++ ys) i ≡ sum_before xs i
sum-pushed xs ys i within = ap (λ (zs : List ℕ). sum zs) (take-append-le i xs ys within)
