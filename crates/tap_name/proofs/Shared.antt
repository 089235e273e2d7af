-- how many first halves of bytes are shared
use Rattle.std.proofs.Common.{◌≡◌, ◌≢◌, ◌∙◌, inl, inr, ℕ, ◌+◌, ◌*◌, ◌/◌, ◌%◌, ◌<◌, ◌≤◌, zero, suc, List, [], ◌∷◌, length, take, get_or, nat_eq, arith, ap, min, sym, refl}
use Rattle.std.specs.List.{common_prefix_len}
use Rattle.std.proofs.lemmas.Bool.{cases_Bool, eqb-true, eq-eqb}
use Rattle.tap_name.specs.Packed.{halves}
use Rattle.tap_name.proofs.Halves.{halves-even, halves-length, halves-odd}

-- one more is shared if the next ones are equal
shared_more : (xs ys : List ℕ) (k : ℕ) → k < length xs → k < length ys → k ≤ common_prefix_len nat_eq xs ys
    → get_or xs k 0 ≡ get_or ys k 0 → k + 1 ≤ common_prefix_len nat_eq xs ys
shared_more [] ys k mine theirs so_far same = absurd (omega arith)
shared_more (x ∷ xs) [] k mine theirs so_far same = absurd (omega arith)
shared_more (x ∷ xs) (y ∷ ys) zero mine theirs so_far same = rw (eq-eqb x y same) (omega arith)
shared_more (x ∷ xs) (y ∷ ys) (suc k) mine theirs so_far same =
    elim (cases_Bool (nat_eq x y)) [
      | inl e ↦
          let before : suc k ≤ 1 + common_prefix_len nat_eq xs ys = rw e at so_far in
          let more = shared_more xs ys k (omega arith) (omega arith) (omega arith) same in
          rw e (omega (arith, more))
      | inr e ↦ let none : suc k ≤ 0 = rw e at so_far in absurd (omega arith)
    ]

-- no more are shared if the next ones differ
shared_most : (xs ys : List ℕ) (k : ℕ) → k < length xs → k < length ys → k ≤ common_prefix_len nat_eq xs ys
    → get_or xs k 0 ≢ get_or ys k 0 → common_prefix_len nat_eq xs ys ≡ k
shared_most [] ys k mine theirs so_far differ = absurd (omega arith)
shared_most (x ∷ xs) [] k mine theirs so_far differ = absurd (omega arith)
shared_most (x ∷ xs) (y ∷ ys) zero mine theirs so_far differ =
    elim (cases_Bool (nat_eq x y)) [ inl e ↦ absurd (differ (eqb-true x y e)) | inr e ↦ rw e refl ]
shared_most (x ∷ xs) (y ∷ ys) (suc k) mine theirs so_far differ =
    elim (cases_Bool (nat_eq x y)) [
      | inl e ↦
          let before : suc k ≤ 1 + common_prefix_len nat_eq xs ys = rw e at so_far in
          let rest = shared_most xs ys k (omega arith) (omega arith) (omega arith) differ in
          rw e (omega (arith, rest))
      | inr e ↦ let none : suc k ≤ 0 = rw e at so_far in absurd (omega arith)
    ]

-- of so many first ones of each, those are shared that are shared at all
pub shared-take : (xs ys : List ℕ) (n m : ℕ)
    → common_prefix_len nat_eq (take n xs) (take m ys) ≡ min (min n m) (common_prefix_len nat_eq xs ys)
shared-take xs ys zero m = omega arith
shared-take [] ys (suc n) m = omega arith
shared-take (x ∷ xs) ys (suc n) zero = omega arith
shared-take (x ∷ xs) [] (suc n) (suc m) = omega arith
shared-take (x ∷ xs) (y ∷ ys) (suc n) (suc m) =
    elim (cases_Bool (nat_eq x y)) [
      | inl e ↦ let rest = shared-take xs ys n m in rw e (omega (arith, rest))
      | inr e ↦ rw e (omega arith)
    ]

module _ (xs ys : List ℕ) (at : ℕ) (mine : at < length xs) (theirs : at < length ys)
    (so_far : 2 * at ≤ common_prefix_len nat_eq (halves xs) (halves ys)) where
  shared_high : get_or xs at 0 / 16 ≡ get_or ys at 0 / 16 → 2 * at + 1 ≤ common_prefix_len nat_eq (halves xs) (halves ys)
  shared_high same =
      shared_more (halves xs) (halves ys) (2 * at) (omega (arith, mine, halves-length xs)) (omega (arith, theirs, halves-length ys))
      so_far (halves-even xs at ∙ same ∙ sym (halves-even ys at))

  -- the high halves differ
  pub by_high : get_or xs at 0 / 16 ≢ get_or ys at 0 / 16 → common_prefix_len nat_eq (halves xs) (halves ys) ≡ 2 * at
  by_high differ =
      shared_most (halves xs) (halves ys) (2 * at) (omega (arith, mine, halves-length xs)) (omega (arith, theirs, halves-length ys))
      so_far (λ same. differ (sym (halves-even xs at) ∙ same ∙ halves-even ys at))

  -- the low halves differ
  pub by_low : get_or xs at 0 / 16 ≡ get_or ys at 0 / 16 → get_or xs at 0 ≢ get_or ys at 0
      → common_prefix_len nat_eq (halves xs) (halves ys) ≡ 2 * at + 1
  by_low same differ =
      shared_most (halves xs) (halves ys) (2 * at + 1) (omega (arith, mine, halves-length xs))
      (omega (arith, theirs, halves-length ys)) (shared_high same)
      (λ low. let is = sym (halves-odd xs at) ∙ low ∙ halves-odd ys at in differ (omega (arith, same, is)))

  -- the next bytes are equal
  pub by_both : get_or xs at 0 ≡ get_or ys at 0 → 2 * (at + 1) ≤ common_prefix_len nat_eq (halves xs) (halves ys)
  by_both same =
      let more = shared_more (halves xs) (halves ys) (2 * at + 1) (omega (arith, mine, halves-length xs))
      (omega (arith, theirs, halves-length ys)) (shared_high (ap (λ b. b / 16) same))
      (halves-odd xs at ∙ ap (λ b. b % 16) same ∙ sym (halves-odd ys at)) in
      omega (arith, more)
