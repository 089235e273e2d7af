-- Names by their heads: the first sixteen digits as one number, in which the first one is worth the most.
use Rattle.std.proofs.Common.{◌≡◌, ◌∙◌, inl, inr, ℕ, ◌+◌, ◌*◌, ◌^◌, ◌<◌, ◌≤◌, zero, suc, List, [], ◌∷◌, length, get_or, All, nat_eq, true, arith, ap, sym, refl}
use Rattle.std.proofs.lemmas.Bool.{cases_order}
use Rattle.std.proofs.lemmas.Bool.Decides.{nat_tests}
use Rattle.std.proofs.lemmas.Cmp.{nat_list_cmp_total, tied_itself}
use Rattle.std.proofs.Math.Nat.{add-mul, one-le-pow, pow-suc}
use Rattle.std.proofs.lemmas.Nat.{mul-le}
use Rattle.std.proofs.lemmas.List.Elements.{All-head, All-tail}
use Rattle.std.proofs.lemmas.Slice.Eq.{bytes_eq-Decides}
use Rattle.std.specs.Cmp.Lexicographic.{pointwise, slice_cmp}
use Rattle.std.specs.Int.{from_be_bytes, w64}
use Rattle.std.specs.Ordering.{nat_cmp, ordering_reverse}
use Rattle.std.specs.declared.cmp.Ordering.TheVariants.{Less, Equal, Greater}
use Rattle.tap_name.specs.Packed.{head_from}

after_first : (n k x : ℕ) (xs : List ℕ) → head_from n (suc k) (x ∷ xs) ≡ head_from n k xs
unfolding head_from
after_first zero k x xs = refl
after_first (suc n) k x xs = ap (λ v. get_or xs k 0 * 16 ^ n + v) (after_first n (suc k) x xs)

head-nil : (n k : ℕ) → head_from n k [] ≡ 0
unfolding head_from
head-nil zero k = refl
head-nil (suc n) k = omega (arith, head-nil n (suc k))

pub sixteen_digits : (xs : List ℕ) → head_from 16 0 xs ≡ get_or xs 0 0 * 1152921504606846976 + get_or xs 1 0 * 72057594037927936
    + get_or xs 2 0 * 4503599627370496 + get_or xs 3 0 * 281474976710656 + get_or xs 4 0 * 17592186044416
    + get_or xs 5 0 * 1099511627776 + get_or xs 6 0 * 68719476736 + get_or xs 7 0 * 4294967296 + get_or xs 8 0 * 268435456
    + get_or xs 9 0 * 16777216 + get_or xs 10 0 * 1048576 + get_or xs 11 0 * 65536 + get_or xs 12 0 * 4096
    + get_or xs 13 0 * 256 + get_or xs 14 0 * 16 + get_or xs 15 0
unfolding head_from
sixteen_digits xs = omega arith

pub eight_bytes : (xs : List ℕ) → from_be_bytes w64 xs ≡ get_or xs 0 0 * 72057594037927936 + get_or xs 1 0 * 281474976710656
    + get_or xs 2 0 * 1099511627776 + get_or xs 3 0 * 4294967296 + get_or xs 4 0 * 16777216 + get_or xs 5 0 * 65536
    + get_or xs 6 0 * 256 + get_or xs 7 0
eight_bytes xs = refl

-- a digit that is above another is worth more than it and all that may follow it
worth_more : (x y worth : ℕ) → x < y → x * worth + worth ≤ y * worth
worth_more x y worth less = omega (arith, mul-le (x + 1) worth y worth (omega arith) (omega arith), add-mul x 1 worth)

-- digits are worth less than one in the place before them
head-fits : (n : ℕ) (xs : List ℕ) → All (λ d. d < 16) xs → head_from n 0 xs < 16 ^ n
unfolding head_from
head-fits zero xs digits = omega arith
head-fits (suc n) [] digits = let some : 1 ≤ 16 ^ suc n = one-le-pow (suc n) 16 (omega arith) in omega (arith, head-nil n 1, some)
head-fits (suc n) (x ∷ xs) digits =
    let rest = head-fits n xs (All-tail (λ d. d < 16) x xs digits) in
    let below : x < 16 = All-head (λ d. d < 16) x xs digits in
    let first = worth_more x 16 (16 ^ n) (omega arith) in
    omega (arith, rest, first, after_first n 0 x xs, pow-suc 16 n)

-- of two names the one with the lesser head is below the other
head-below : (n : ℕ) (xs ys : List ℕ) → All (λ d. d < 16) ys → head_from n 0 xs < head_from n 0 ys → slice_cmp nat_cmp xs ys ≡ Less
unfolding head_from
head-below zero xs ys digits less = absurd (omega arith)
head-below (suc n) xs [] digits less = absurd (omega (arith, head-nil n 1))
head-below (suc n) [] (y ∷ ys) digits less = refl
head-below (suc n) (x ∷ xs) (y ∷ ys) digits less =
    let tail = All-tail (λ d. d < 16) y ys digits in
    let mine = after_first n 0 x xs in
    let theirs = after_first n 0 y ys in
    elim (cases_order x y) [
      | inl same ↦
          let worth = ap (λ d. d * 16 ^ n) same in
          let rest = head-below n xs ys tail (omega (arith, mine, theirs, worth)) in
          let tie : nat_cmp x y ≡ Equal = grind (arith, nat_tests) in
          rw tie rest
      | inr (inl below) ↦ let is : nat_cmp x y ≡ Less = grind (arith, nat_tests) in rw is refl
      | inr (inr above) ↦
          let more = worth_more y x (16 ^ n) above in
          absurd (omega (arith, mine, theirs, more, head-fits n ys tail))
    ]

-- names of one head and one length that have no more digits are one
head-same : (n : ℕ) (xs ys : List ℕ) → length xs ≡ length ys → length xs ≤ n → All (λ d. d < 16) xs → All (λ d. d < 16) ys
    → head_from n 0 xs ≡ head_from n 0 ys → xs ≡ ys
unfolding head_from
head-same zero [] [] len few mine theirs same = refl
head-same zero (x ∷ xs) ys len few mine theirs same = absurd (omega arith)
head-same zero [] (y ∷ ys) len few mine theirs same = absurd (omega arith)
head-same (suc n) [] [] len few mine theirs same = refl
head-same (suc n) [] (y ∷ ys) len few mine theirs same = absurd (omega arith)
head-same (suc n) (x ∷ xs) [] len few mine theirs same = absurd (omega arith)
head-same (suc n) (x ∷ xs) (y ∷ ys) len few mine theirs same =
    let mine_rest = All-tail (λ d. d < 16) x xs mine in
    let theirs_rest = All-tail (λ d. d < 16) y ys theirs in
    let is = after_first n 0 x xs in
    let other = after_first n 0 y ys in
    elim (cases_order x y) [
      | inl first ↦
          let worth = ap (λ d. d * 16 ^ n) first in
          let rest = head-same n xs ys (omega arith) (omega arith) mine_rest theirs_rest (omega (arith, is, other, worth)) in
          λ i. first i ∷ rest i
      | inr (inl below) ↦
          let more = worth_more x y (16 ^ n) below in
          absurd (omega (arith, is, other, more, head-fits n xs mine_rest))
      | inr (inr above) ↦
          let more = worth_more y x (16 ^ n) above in
          absurd (omega (arith, is, other, more, head-fits n ys theirs_rest))
    ]

-- names with the same digits are tied
pub tied_if_same : (xs ys : List ℕ) → pointwise nat_eq xs ys ≡ true → Equal ≡ slice_cmp nat_cmp xs ys
tied_if_same xs ys same =
    let one = (bytes_eq-Decides xs ys).0 same in
    sym (ap (λ (x : List ℕ). slice_cmp nat_cmp x ys) one ∙ tied_itself nat_list_cmp_total ys)

module _ (xs ys : List ℕ) (mine theirs : ℕ) (mine_is : mine ≡ head_from 16 0 xs) (theirs_is : theirs ≡ head_from 16 0 ys)
    (mine_digits : All (λ d. d < 16) xs) (theirs_digits : All (λ d. d < 16) ys) where
  -- names of one head and one length that have no more digits are one
  one_by_head : length xs ≡ length ys → length xs ≤ 16 → mine ≡ theirs → xs ≡ ys
  one_by_head len few same = head-same 16 xs ys len few mine_digits theirs_digits (omega (arith, mine_is, theirs_is))

  pub below_by_head : mine < theirs → Less ≡ slice_cmp nat_cmp xs ys
  below_by_head less = sym (head-below 16 xs ys theirs_digits (omega (arith, mine_is, theirs_is)))

  pub above_by_head : theirs < mine → Greater ≡ slice_cmp nat_cmp xs ys
  above_by_head less =
      let back = head-below 16 ys xs mine_digits (omega (arith, mine_is, theirs_is)) in
      sym (nat_list_cmp_total.antisymm xs ys ∙ ap ordering_reverse back)

  pub same_by_head : length xs ≡ length ys → length xs ≤ 16 → mine ≡ theirs → Equal ≡ slice_cmp nat_cmp xs ys
  same_by_head len few same =
      let one = one_by_head len few same in
      sym (ap (λ (x : List ℕ). slice_cmp nat_cmp x ys) one ∙ tied_itself nat_list_cmp_total ys)

  pub equal_by_head : length xs ≡ length ys → length xs ≤ 16 → mine ≡ theirs → true ≡ pointwise nat_eq xs ys
  equal_by_head len few same = sym ((bytes_eq-Decides xs ys).1 (one_by_head len few same))
