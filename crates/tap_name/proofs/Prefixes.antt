-- arithmetic of names: how many digits they share, two by two
-- Cited above: lcp-differs, lcp-digits, lcp-is, lcp-itself, lcp-least, lcp-more, lcp-most, lcp-sym, lcp-triangle, lcp-whole
use Rattle.std.proofs.Common.{◌≡◌, inl, inr, ℕ, ◌+◌, ◌<◌, ◌≤◌, min, zero, suc, List, [], ◌∷◌, length, get_or, take, nat_eq, arith, refl, sym, ◌∙◌, true, false}
use Rattle.std.specs.List.{common_prefix_len}
use Rattle.std.proofs.lemmas.Bool.{cases_Bool, cases_lt, eqb-true, eq-eqb, eqb-false, ne_eqb}
use Rattle.std.proofs.lemmas.List.Sums.{common_prefix_len-le}
use Rattle.tap_name.specs.Prefix.{lcp}
use Rattle.tap_name.proofs.Names.{same_at}
use Rattle.tap_name.proofs.Prefix.{whole_prefix, prefix_of_itself}

-- Of the three numbers that three names share two by two, the two least are one.
pub record Triangle (ab bc ac : ℕ) : Type 0 where
  pub below : ab < bc → ac ≡ ab
  pub above : bc < ab → ac ≡ bc
  pub even : ab ≡ bc → ab ≤ ac

raw_sym : (a b : List ℕ) → common_prefix_len nat_eq a b ≡ common_prefix_len nat_eq b a
raw_sym [] [] = refl
raw_sym [] (y ∷ ys) = refl
raw_sym (x ∷ xs) [] = refl
raw_sym (x ∷ xs) (y ∷ ys) =
    let rest = raw_sym xs ys in
    elim (cases_Bool (nat_eq x y)) [
      | inl e ↦ let back : nat_eq y x ≡ true = eq-eqb y x (sym (eqb-true x y e)) in rw (e, back) (omega arith)
      | inr e ↦ let back : nat_eq y x ≡ false = ne_eqb y x (λ h. eqb-false x y e (sym h)) in rw (e, back) refl
    ]

raw_digits : (a b : List ℕ) (k : ℕ) → k < common_prefix_len nat_eq a b → get_or a k 0 ≡ get_or b k 0
raw_digits [] b k h = absurd (omega arith)
raw_digits (x ∷ xs) [] k h = absurd (omega arith)
raw_digits (x ∷ xs) (y ∷ ys) zero h =
    elim (cases_Bool (nat_eq x y)) [ inl e ↦ eqb-true x y e | inr e ↦ let none : 0 < 0 = rw e at h in absurd (omega arith) ]
raw_digits (x ∷ xs) (y ∷ ys) (suc k) h =
    elim (cases_Bool (nat_eq x y)) [
      | inl e ↦ let more : suc k < 1 + common_prefix_len nat_eq xs ys = rw e at h in raw_digits xs ys k (omega arith)
      | inr e ↦ let none : suc k < 0 = rw e at h in absurd (omega arith)
    ]

raw_differs : (a b : List ℕ) → common_prefix_len nat_eq a b < length a → common_prefix_len nat_eq a b < length b
    → get_or a (common_prefix_len nat_eq a b) 0 ≡ get_or b (common_prefix_len nat_eq a b) 0 → ⊥
raw_differs [] b in_a in_b same = absurd (omega arith)
raw_differs (x ∷ xs) [] in_a in_b same = absurd (omega arith)
raw_differs (x ∷ xs) (y ∷ ys) in_a in_b same =
    elim (cases_Bool (nat_eq x y)) [
      | inl e ↦
          let is : common_prefix_len nat_eq (x ∷ xs) (y ∷ ys) ≡ suc (common_prefix_len nat_eq xs ys) = rw e (omega arith) in
          raw_differs xs ys (omega arith) (omega arith) (rw is at same)
      | inr e ↦
          let is : common_prefix_len nat_eq (x ∷ xs) (y ∷ ys) ≡ 0 = rw e refl in
          eqb-false x y e (rw is at same)
    ]

raw_shares : (a b : List ℕ) (k : ℕ) → k ≤ length a → k ≤ length b → ((i : ℕ) → i < k → get_or a i 0 ≡ get_or b i 0)
    → k ≤ common_prefix_len nat_eq a b
raw_shares a b zero in_a in_b same = omega arith
raw_shares [] b (suc k) in_a in_b same = absurd (omega arith)
raw_shares (x ∷ xs) [] (suc k) in_a in_b same = absurd (omega arith)
raw_shares (x ∷ xs) (y ∷ ys) (suc k) in_a in_b same =
    let first : x ≡ y = same 0 (omega arith) in
    let rest = raw_shares xs ys k (omega arith) (omega arith) (λ i h. same (suc i) (omega arith)) in
    let test : nat_eq x y ≡ true = eq-eqb x y first in
    rw test (omega arith)

raw_take : (a b : List ℕ) (k : ℕ) → k ≤ common_prefix_len nat_eq a b → take k a ≡ take k b
raw_take a b zero h = refl
raw_take [] b (suc k) h = absurd (omega arith)
raw_take (x ∷ xs) [] (suc k) h = absurd (omega arith)
raw_take (x ∷ xs) (y ∷ ys) (suc k) h =
    elim (cases_Bool (nat_eq x y)) [
      | inl e ↦
          let more : suc k ≤ 1 + common_prefix_len nat_eq xs ys = rw e at h in
          let rest = raw_take xs ys k (omega arith) in
          let head : x ≡ y = eqb-true x y e in
          cc
      | inr e ↦ let none : suc k ≤ 0 = rw e at h in absurd (omega arith)
    ]

-- it is std's length of the common prefix
pub lcp-is : (a b : List ℕ) → lcp a b ≡ common_prefix_len nat_eq a b
unfolding lcp
lcp-is a b = refl

pub lcp-sym : (a b : List ℕ) → lcp a b ≡ lcp b a
unfolding lcp
lcp-sym a b = raw_sym a b

-- two names share no more digits than each has
pub lcp-most : (a b : List ℕ) → (lcp a b ≤ length a) × (lcp a b ≤ length b)
unfolding lcp
lcp-most a b = common_prefix_len-le nat_eq a b

-- a name shares all digits with itself
pub lcp-itself : (a : List ℕ) → lcp a a ≡ length a
unfolding lcp
lcp-itself a = prefix_of_itself a

-- two names of one length that share all digits are one
pub lcp-whole : (a b : List ℕ) → length a ≡ length b → length a ≤ lcp a b → a ≡ b
unfolding lcp
lcp-whole a b len all = let most = common_prefix_len-le nat_eq a b in whole_prefix a b len (omega arith)

-- the digits below the level up to which they share are the same
pub lcp-digits : (a b : List ℕ) (k : ℕ) → k < lcp a b → get_or a k 0 ≡ get_or b k 0
unfolding lcp
lcp-digits a b k h = raw_digits a b k h

-- those at it differ
pub lcp-differs : (a b : List ℕ) → lcp a b < length a → lcp a b < length b → get_or a (lcp a b) 0 ≡ get_or b (lcp a b) 0 → ⊥
unfolding lcp
lcp-differs a b in_a in_b same = raw_differs a b in_a in_b same

-- names with the same digits below a level share as many
pub lcp-shares : (a b : List ℕ) (k : ℕ) → k ≤ length a → k ≤ length b → ((i : ℕ) → i < k → get_or a i 0 ≡ get_or b i 0) → k ≤ lcp a b
unfolding lcp
lcp-shares a b k in_a in_b same = raw_shares a b k in_a in_b same

-- names that share so many digits begin with the same ones
pub take-from_lcp : (a b : List ℕ) (k : ℕ) → k ≤ lcp a b → take k a ≡ take k b
unfolding lcp
take-from_lcp a b k h = raw_take a b k h

-- names that begin with the same digits share as many
pub lcp-from_take : (a b : List ℕ) (k : ℕ) → k ≤ length a → k ≤ length b → take k a ≡ take k b → k ≤ lcp a b
lcp-from_take a b k in_a in_b same = lcp-shares a b k in_a in_b (λ i below. same_at i k a b below same)

-- Two names that each share so many digits with a third share as many: the names that share so many with one are a ball.
pub lcp-least : (a b c : List ℕ) (k : ℕ) → k ≤ lcp a b → k ≤ lcp b c → k ≤ lcp a c
lcp-least a b c k ab bc =
    let in_ab = lcp-most a b in
    let in_bc = lcp-most b c in
    lcp-shares a c k (omega arith) (omega arith) (λ i below. lcp-digits a b i (omega arith) ∙ lcp-digits b c i (omega arith))

pub lcp-triangle : (a b c : List ℕ) → Triangle (lcp a b) (lcp b c) (lcp a c)
lcp-triangle a b c =
    let ab = lcp-sym a b in
    let bc = lcp-sym b c in
    let least = lcp-least a b c in
    let left = lcp-least b a c in
    let right = lcp-least a c b in
    let cb = lcp-sym c b in
    record {
      below = λ h. let one = least (lcp a b) (omega arith) (omega arith) in
          elim (cases_lt (lcp a b) (lcp a c)) [
            | inl e ↦ let two = right (lcp a b + 1) (omega arith) (omega arith) in omega arith
            | inr e ↦ omega arith
          ];
      above = λ h. let one = least (lcp b c) (omega arith) (omega arith) in
          elim (cases_lt (lcp b c) (lcp a c)) [
            | inl e ↦ let two = left (lcp b c + 1) (omega arith) (omega arith) in omega arith
            | inr e ↦ omega arith
          ];
      even = λ h. least (lcp a b) (omega arith) (omega arith);
    }

-- two names share at least as many digits as each with a third, at the least
pub lcp-min : (a b c : List ℕ) → min (lcp a b) (lcp b c) ≤ lcp a c
lcp-min a b c = let sides = lcp-triangle a b c in
    elim (cases_lt (lcp a b) (lcp b c)) [
      | inl e ↦ let is = sides.below e in omega arith
      | inr e ↦ elim (cases_lt (lcp b c) (lcp a b)) [
        | inl f ↦ let is = sides.above f in omega arith
        | inr f ↦ let is = sides.even (omega arith) in omega arith
      ]
    ]

-- Where two names share as much with a third and have one digit there, they share more with each other.
pub lcp-more : (a b c : List ℕ) → lcp a b < length b → lcp a b < length c → lcp a c ≡ lcp a b
    → get_or b (lcp a b) 0 ≡ get_or c (lcp a b) 0 → lcp a b < lcp b c
lcp-more a b c in_b in_c level digit =
    let least = lcp-least b a c (lcp a b) (let ab = lcp-sym a b in omega arith) (omega arith) in
    elim (cases_lt (lcp a b) (lcp b c)) [
      | inl more ↦ more
      | inr same ↦
          let at : lcp b c ≡ lcp a b = omega arith in
          absurd (lcp-differs b c (omega arith) (omega arith) (rw at digit))
    ]
