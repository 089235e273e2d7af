-- Sums over lists, and how many pass a test of which each that passes it passes another at one of a list.
use Rattle.std.proofs.Common.{◌≡◌, ◌⊎◌, inl, inr, ℕ, ◌+◌, ◌*◌, ◌≤◌, Bool, true, cond, List, [], ◌∷◌, ◌++◌, length, arith, ap, refl, sym, ◌∙◌}
use Rattle.std.specs.Prelude.{count_by, if◌then◌else◌}
use Rattle.std.specs.List.{sum_by}
use Rattle.std.proofs.lemmas.Bool.{cases_Bool}
use Rattle.std.proofs.lemmas.List.Sums.{sum_by-cons, sum_by-le}
use Rattle.tap_rule.specs.Sent.{IsAmong}
use Rattle.tap_bounds.proofs.Counting.{count-cons}

-- ---- sums

-- each summand is at most so much, or at most another
pub sum-most : {X : Type 0} (f : X → ℕ) (most : ℕ) → ((x : X) → f x ≤ most) → (xs : List X) → sum_by f xs ≤ length xs * most
sum-most f most each xs = sum_by-le f most xs (λ k d within. each _)

pub sum-less : {X : Type 0} (f g : X → ℕ) → ((x : X) → f x ≤ g x) → (xs : List X) → sum_by f xs ≤ sum_by g xs
sum-less f g each [] = omega arith
sum-less f g each (x ∷ xs) =
    let one = sum_by-cons f x xs in
    let two = sum_by-cons g x xs in
    let here = each x in
    let later = sum-less f g each xs in
    omega (arith, one, two, here, later)

-- a sum of sums, and a part of each that is the same
pub sum-both : {X : Type 0} (f g h : X → ℕ) → ((x : X) → f x ≡ g x + h x) → (xs : List X) → sum_by f xs ≡ sum_by g xs + sum_by h xs
sum-both f g h each [] = refl
sum-both f g h each (x ∷ xs) =
    let one = sum_by-cons f x xs in
    let two = sum_by-cons g x xs in
    let three = sum_by-cons h x xs in
    let here = each x in
    let later = sum-both f g h each xs in
    omega (arith, one, two, three, here, later)

-- only those that fail the test count, and none of the first ones fails it
pub sum-failing : {X : Type 0} (t : X → Bool) (most : ℕ) (first later : List X) → ((x : X) → IsAmong x first → t x ≡ true)
    → sum_by (λ x. if t x then 0 else most) (first ++ later) ≤ length later * most
sum-failing t most [] later pass = sum-most (λ x. if t x then 0 else most) most most_each later
  where
    most_each : (x : _) → (if t x then 0 else most) ≤ most
    most_each x = elim (cases_Bool (t x)) [ inl is ↦ rw is (omega arith) | inr is ↦ rw is (omega arith) ]
sum-failing t most (x ∷ first) later pass =
    let all = sum_by-cons (λ y. if t y then 0 else most) x (first ++ later) in
    let here : (if t x then 0 else most) ≡ 0 = rw (pass x (inl refl)) refl in
    let rest = sum-failing t most first later (λ y among. pass y (inr among)) in
    omega (arith, all, here, rest)

-- ---- counts

module _ {X Y : Type 0} (u : X → Y → Bool) where
  one_passes : (xs : List X) (x : X) (y : Y) → IsAmong x xs → u x y ≡ true → 1 ≤ sum_by (λ z. cond {A = ℕ} (u z y) 1 0) xs
  one_passes [] x y among passes = absurd among
  one_passes (z ∷ xs) x y (inl is) passes =
      let same : u z y ≡ true = ap (λ w. u w y) (sym is) ∙ passes in
      let here : cond {A = ℕ} (u z y) 1 0 ≡ 1 = rw same refl in
      let all = sum_by-cons (λ w. cond {A = ℕ} (u w y) 1 0) z xs in
      omega (arith, here, all)
  one_passes (z ∷ xs) x y (inr later) passes =
      let rest = one_passes xs x y later passes in
      let all = sum_by-cons (λ w. cond {A = ℕ} (u w y) 1 0) z xs in
      omega (arith, rest, all)

  -- it passes the test at one of these
  pub record PassesAtOne (xs : List X) (y : Y) : Type 0 where
    pub at : X
    pub among : IsAmong at xs
    pub passes : u at y ≡ true

  -- If each that passes a test passes another at one of these, then at most as many pass the one as pass the other, over all of these.
  pub count-at_one : (t : Y → Bool) (xs : List X) (ys : List Y) → ((y : Y) → IsAmong y ys → t y ≡ true → PassesAtOne xs y)
      → count_by t ys ≤ sum_by (λ x. count_by (u x) ys) xs
  count-at_one t xs [] each = omega arith
  count-at_one t xs (y ∷ ys) each =
      let all = count-cons t y ys in
      let parts = sum-both (λ x. count_by (u x) (y ∷ ys)) (λ x. cond {A = ℕ} (u x y) 1 0) (λ x. count_by (u x) ys)
      (λ x. count-cons (u x) y ys) xs in
      let rest = count-at_one t xs ys (λ z among. each z (inr among)) in
      let here : cond {A = ℕ} (t y) 1 0 ≤ sum_by (λ x. cond {A = ℕ} (u x y) 1 0) xs =
      elim (cases_Bool (t y)) [
        | inl is ↦
            let one = each y (inl refl) is in
            let passes = one_passes xs one.at y one.among one.passes in
            rw is (omega (arith, passes))
        | inr is ↦ rw is (omega arith)
      ] in
      omega (arith, all, parts, rest, here)

module _ {Y : Type 0} where
  -- if each that passes a test passes another, or one of two others, then at most as many pass it
  pub count-passing : (t u : Y → Bool) → ((y : Y) → t y ≡ true → u y ≡ true) → (ys : List Y) → count_by t ys ≤ count_by u ys
  count-passing t u each [] = omega arith
  count-passing t u each (y ∷ ys) =
      let one = count-cons t y ys in
      let two = count-cons u y ys in
      let rest = count-passing t u each ys in
      let here : cond {A = ℕ} (t y) 1 0 ≤ cond {A = ℕ} (u y) 1 0 =
      elim (cases_Bool (t y)) [ inl is ↦ let also = each y is in rw (is, also) (omega arith) | inr is ↦ rw is (omega arith) ] in
      omega (arith, one, two, rest, here)

  pub count-either : (t u v : Y → Bool) → ((y : Y) → t y ≡ true → (u y ≡ true) ⊎ (v y ≡ true)) → (ys : List Y)
      → count_by t ys ≤ count_by u ys + count_by v ys
  count-either t u v each [] = omega arith
  count-either t u v each (y ∷ ys) =
      let one = count-cons t y ys in
      let two = count-cons u y ys in
      let three = count-cons v y ys in
      let rest = count-either t u v each ys in
      let here : cond {A = ℕ} (t y) 1 0 ≤ cond {A = ℕ} (u y) 1 0 + cond {A = ℕ} (v y) 1 0 =
      elim (cases_Bool (t y)) [
        | inl is ↦ elim (each y is) [ inl also ↦ rw (is, also) (omega arith) | inr also ↦ rw (is, also) (omega arith) ]
        | inr is ↦ rw is (omega arith)
      ] in
      omega (arith, one, two, three, rest, here)

-- ---- sums over two lists

-- the same summand for each, and each so many times
pub sum-same : {X : Type 0} (c : ℕ) (xs : List X) → sum_by (λ (x : X). c) xs ≡ length xs * c
sum-same {X = X} c [] = let none : sum_by {X = X} (λ x. c) [] ≡ 0 = refl in omega (arith, none)
sum-same c (x ∷ xs) =
    let all = sum_by-cons (λ _. c) x xs in
    let rest = sum-same c xs in
    omega (arith, all, rest)

pub sum-times : {X : Type 0} (f : X → ℕ) (times : ℕ) (xs : List X) → sum_by (λ x. times * f x) xs ≡ times * sum_by f xs
sum-times f times [] = omega arith
sum-times f times (x ∷ xs) =
    let all = sum_by-cons (λ y. times * f y) x xs in
    let one = sum_by-cons f x xs in
    let rest = sum-times f times xs in
    let times_all = ap (λ n. times * n) one in
    omega (arith, all, times_all, rest)

-- a summand for each of the first, and one for each of the second
pub sum-grid : {X : Type 0} (f g : X → ℕ) (xs : List X)
    → sum_by (λ x. sum_by (λ y. f y + g x) xs) xs ≡ length xs * (sum_by f xs + sum_by g xs)
sum-grid f g xs =
    let inner : (x : _) → sum_by (λ y. f y + g x) xs ≡ sum_by f xs + length xs * g x =
    λ x.
    let both = sum-both (λ y. f y + g x) f (λ y. g x) (λ y. refl) xs in
    let same = sum-same (g x) xs in
    omega (arith, both, same) in
    let outer = sum-both (λ x. sum_by (λ y. f y + g x) xs) (λ x. sum_by f xs) (λ x. length xs * g x) inner xs in
    let first : sum_by (λ _. sum_by f xs) xs ≡ length xs * sum_by f xs = sum-same (sum_by f xs) xs in
    let second = sum-times g (length xs) xs in
    omega (arith, outer, first, second)
