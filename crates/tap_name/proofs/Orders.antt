-- the order of names: their first digits that differ decide it
-- Cited above: below-cases, below-digits, below-itself, below-one_way, below-trans, name_cmp-equal, name_cmp-itself
use Rattle.std.proofs.Common.{◌≡◌, ◌↔◌, ◌⊎◌, inl, inr, ℕ, ◌<◌, true, suc, List, [], ◌∷◌, length, get_or, nat_eq, arith, ap, sym, refl, ◌∙◌}
use Rattle.std.specs.List.{common_prefix_len}
use Rattle.std.specs.Cmp.Lexicographic.{slice_cmp}
use Rattle.std.specs.Ordering.{is_eq, nat_cmp, ordering_reverse, ordering_then}
use Rattle.std.specs.declared.cmp.Ordering.{Ordering}
use Rattle.std.specs.declared.cmp.Ordering.TheVariants.{Less, Equal, Greater}
use Rattle.std.proofs.lemmas.Bool.{cases_Bool, cases_lt, eqb-true, eqb-false}
use Rattle.std.proofs.lemmas.Bool.Decides.{nat_tests}
use Rattle.std.proofs.lemmas.Cmp.{nat_list_cmp_total, ranked, tied_itself}
use Rattle.std.proofs.lemmas.Map.Text.{is_eq-slice_cmp}
use Rattle.std.proofs.lemmas.Slice.Eq.{bytes_eq-Decides}
use Rattle.tap_name.specs.Order.{name_cmp, IsBelow}
use Rattle.tap_name.specs.Prefix.{lcp}
use Rattle.tap_name.proofs.Prefixes.{lcp-most, lcp-whole}

same_digit : (x : ℕ) → nat_cmp x x ≡ Equal
same_digit x = grind (arith, nat_tests)

other_digit : (x y : ℕ) (o : Ordering) → (x ≡ y → ⊥) → ordering_then (nat_cmp x y) o ≡ nat_cmp x y
other_digit x y o apart =
    elim (cases_lt x y) [
      | inl below ↦ let is : nat_cmp x y ≡ Less = grind (arith, nat_tests) in rw is refl
      | inr above ↦ let is : nat_cmp x y ≡ Greater = grind (arith, nat_tests, apart) in rw is refl
    ]

raw_cmp : (a b : List ℕ) → common_prefix_len nat_eq a b < length a → common_prefix_len nat_eq a b < length b
    → slice_cmp nat_cmp a b ≡ nat_cmp (get_or a (common_prefix_len nat_eq a b) 0) (get_or b (common_prefix_len nat_eq a b) 0)
raw_cmp [] b in_a in_b = absurd (omega arith)
raw_cmp (x ∷ xs) [] in_a in_b = absurd (omega arith)
raw_cmp (x ∷ xs) (y ∷ ys) in_a in_b =
    elim (cases_Bool (nat_eq x y)) [
      | inl e ↦
          let head : x ≡ y = eqb-true x y e in
          let tie : nat_cmp x y ≡ Equal = ap (nat_cmp x) (sym head) ∙ same_digit x in
          let is : common_prefix_len nat_eq (x ∷ xs) (y ∷ ys) ≡ suc (common_prefix_len nat_eq xs ys) = rw e (omega arith) in
          rw (is, tie) (raw_cmp xs ys (omega arith) (omega arith))
      | inr e ↦
          let is : common_prefix_len nat_eq (x ∷ xs) (y ∷ ys) ≡ 0 = rw e refl in
          rw is (other_digit x y (slice_cmp nat_cmp xs ys) (eqb-false x y e))
    ]

-- names that differ are ordered by the digits at the level up to which they share
pub name_cmp-digits : (a b : List ℕ) → lcp a b < length a → lcp a b < length b
    → name_cmp a b ≡ nat_cmp (get_or a (lcp a b) 0) (get_or b (lcp a b) 0)
unfolding lcp
name_cmp-digits a b in_a in_b = raw_cmp a b in_a in_b

-- a name compares as equal with itself alone
pub name_cmp-equal : (a b : List ℕ) → is_eq (name_cmp a b) ≡ true → a ≡ b
name_cmp-equal a b tied = (bytes_eq-Decides a b).0 (sym (is_eq-slice_cmp a b) ∙ tied)

pub name_cmp-itself : (a : List ℕ) → name_cmp a a ≡ Equal
name_cmp-itself a = tied_itself nat_list_cmp_total a

less_digit : (x y : ℕ) → (nat_cmp x y ≡ Less) ↔ (x < y)
less_digit x y =
    (λ less. rw less at (ranked x y (nat_cmp x y) refl), λ below. grind (arith, nat_tests))

-- of two names of one length one is below the other exactly where its digit is, at the level up to which they share
pub below-digits : (a b : List ℕ) → length a ≡ length b → IsBelow a b ↔ (get_or a (lcp a b) 0 < get_or b (lcp a b) 0)
below-digits a b len =
    let most = lcp-most a b in
    elim (cases_lt (lcp a b) (length a)) [
      | inl inside ↦
          let is = name_cmp-digits a b inside (omega arith) in
          let digit = less_digit (get_or a (lcp a b) 0) (get_or b (lcp a b) 0) in
          (λ below. digit.0 (sym is ∙ below), λ below. is ∙ digit.1 below)
      | inr all ↦
          let same : a ≡ b = lcp-whole a b len (omega arith) in
          let tie : name_cmp a b ≡ Equal = ap (name_cmp a) (sym same) ∙ name_cmp-itself a in
          let digits : get_or a (lcp a b) 0 ≡ get_or b (lcp a b) 0 = ap (λ n. get_or n (lcp a b) 0) same in (
            λ below. let wrong : Equal ≡ Less = sym tie ∙ below in absurd (cc),
            λ below. absurd (omega arith),
          )
    ]

pub below-trans : (a b c : List ℕ) → IsBelow a b → IsBelow b c → IsBelow a c
below-trans a b c ab bc = nat_list_cmp_total.trans a b c ab bc

-- of two names at most one is below the other
pub below-one_way : (a b : List ℕ) → IsBelow a b → IsBelow b a → ⊥
below-one_way a b ab ba =
    let back : name_cmp b a ≡ Greater = nat_list_cmp_total.antisymm b a ∙ ap ordering_reverse ab in
    let wrong : Greater ≡ Less = sym back ∙ ba in absurd (cc)

pub below-itself : (a : List ℕ) → IsBelow a a → ⊥
below-itself a below = below-one_way a a below below

-- two names are one, or one is below the other
pub below-cases : (a b : List ℕ) → (a ≡ b) ⊎ (IsBelow a b ⊎ IsBelow b a)
below-cases a b = go (name_cmp a b) refl
  where
    go : (o : Ordering) → name_cmp a b ≡ o → (a ≡ b) ⊎ (IsBelow a b ⊎ IsBelow b a)
    go Less is = inr (inl is)
    go Equal is = inl (name_cmp-equal a b (ap is_eq is))
    go Greater is = inr (inr (nat_list_cmp_total.antisymm b a ∙ ap ordering_reverse is))
