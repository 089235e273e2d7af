-- how a name is kept: its digits two by two, and zeros after them
use Rattle.std.proofs.Common.{◌≡◌, ◌∙◌, ◌-◌, inl, inr, ℕ, ◌+◌, ◌*◌, ◌/◌, ◌%◌, ◌<◌, List, ◌++◌, take, drop, replicate, get_or, length-take-le, take-append-drop, All, nat_eq, arith, ap, sym, subst}
use Rattle.std.proofs.lemmas.Bool.{cases_lt}
use Rattle.std.proofs.lemmas.List.{get_or-drop, get_or-replicate, get_or-take, get_or_past}
use Rattle.std.proofs.lemmas.List.Elements.{All-append, All-replicate, All-same}
use Rattle.std.proofs.lemmas.Slice.Eq.{bytes_eq-Decides}
use Rattle.std.specs.Cmp.Lexicographic.{pointwise}
use Rattle.tap_name.specs.Padded.{IsPadded, padded, padded_take}
use Rattle.tap_name.specs.Packed.{halves, joined, joined-halves, packed}
use Rattle.tap_name.proofs.Halves.{halves-even, halves-joined, halves-odd}
use Rattle.tap_name.proofs.Names.{same_tests}

-- a digit of a name, also past its last one, stands in its place
digit_in_place : (places : List ℕ) (len i : ℕ) → IsPadded 40 (λ d. d < 16) places len → i < 40
    → get_or places i 0 ≡ get_or (take len places) i 0
digit_in_place places len i padded within =
    elim (cases_lt i len) [
      | inl inside ↦ sym (get_or-take len places i 0 inside)
      | inr past ↦
          let before = length-take-le len places (omega (arith, padded.fits, padded.all)) in
          let at : get_or places (len + (i - len)) 0 ≡ get_or places i 0 = ap (λ k. get_or places k 0) (omega arith) in
          let inside : i - len < 40 - len = omega arith in
          let zeros : List ℕ = replicate (40 - len) 0 in
          let free : get_or zeros (i - len) 0 ≡ 0 = get_or-replicate (40 - len) (i - len) 0 0 inside in
          let none = get_or_past (take len places) i 0 (omega (arith, before, past)) in
          let rest = ap (λ (xs : List ℕ). get_or xs (i - len) 0) padded.rest in
          omega (arith, at, get_or-drop len places (i - len) 0, rest, free, none)
    ]

-- each byte holds the two digits of its place
pub pair_in_place : (bytes : List ℕ) (len at : ℕ) → IsPadded 40 (λ d. d < 16) (halves bytes) len → at < 20
    → get_or bytes at 0 ≡ get_or (take len (halves bytes)) (2 * at) 0 * 16 + get_or (take len (halves bytes)) (2 * at + 1) 0
pair_in_place bytes len at padded within =
    let high = digit_in_place (halves bytes) len (2 * at) padded (omega arith) in
    let low = digit_in_place (halves bytes) len (2 * at + 1) padded (omega arith) in
    omega (arith, high, low, halves-even bytes at, halves-odd bytes at)

-- a digit at an even place is a high half, and one at an odd place a low half
pub even_digit : (bytes : List ℕ) (len at : ℕ) → IsPadded 40 (λ d. d < 16) (halves bytes) len → at < 40 → at % 2 ≡ 0
    → get_or bytes (at / 2) 0 / 16 ≡ get_or (take len (halves bytes)) at 0
even_digit bytes len at padded within even =
    let here : 2 * (at / 2) ≡ at = omega arith in
    sym (halves-even bytes (at / 2)) ∙ ap (λ k. get_or (halves bytes) k 0) here ∙ digit_in_place (halves bytes) len at padded within

pub odd_digit : (bytes : List ℕ) (len at : ℕ) → IsPadded 40 (λ d. d < 16) (halves bytes) len → at < 40 → at % 2 ≡ 1
    → get_or bytes (at / 2) 0 % 16 ≡ get_or (take len (halves bytes)) at 0
odd_digit bytes len at padded within odd =
    let here : 2 * (at / 2) + 1 ≡ at = omega arith in
    sym (halves-odd bytes (at / 2)) ∙ ap (λ k. get_or (halves bytes) k 0) here ∙ digit_in_place (halves bytes) len at padded within

-- all places hold digits, also those after the name's
pub all_digits : (places : List ℕ) (len : ℕ) → IsPadded 40 (λ d. d < 16) places len → All (λ d. d < 16) places
all_digits places len padded =
    let zeros : List ℕ = replicate (40 - len) 0 in
    let after : All (λ d. d < 16) (drop len places) =
    All-same (λ d. d < 16) (drop len places) zeros padded.rest (All-replicate (λ d. d < 16) (40 - len) 0 (omega arith)) in
    All-same (λ d. d < 16) places (take len places ++ drop len places) (sym (take-append-drop len places))
    (All-append (λ d. d < 16) (take len places) (drop len places) padded.used after)

-- bytes that hold digits two by two have them as their halves
pub holds : (bytes places : List ℕ) (len : ℕ) → bytes ≡ joined places → IsPadded 40 (λ d. d < 16) places len
    → halves bytes ≡ places
holds bytes places len is padded =
    ap halves is ∙ halves-joined 20 places (omega (arith, padded.all)) (all_digits places len padded)

pub kept : (bytes places : List ℕ) (len : ℕ) → halves bytes ≡ places → IsPadded 40 (λ d. d < 16) places len
    → IsPadded 40 (λ d. d < 16) (halves bytes) len
kept bytes places len is padded = subst (λ (all : List ℕ). IsPadded 40 (λ d. d < 16) all len) (sym is) padded

unpacked : (bytes : List ℕ) (len : ℕ) → IsPadded 40 (λ d. d < 16) (halves bytes) len
    → joined (padded 40 (take len (halves bytes))) ≡ bytes
unpacked bytes len is = ap joined (padded_take 40 (λ d. d < 16) (halves bytes) len is) ∙ joined-halves bytes

-- the bytes in which a name is kept
pub is_packed : (bytes : List ℕ) (len : ℕ) (name : List ℕ) → IsPadded 40 (λ d. d < 16) (halves bytes) len
    → take len (halves bytes) ≡ name → bytes ≡ packed name
unfolding packed
is_packed bytes len name is name_is =
    sym (unpacked bytes len is) ∙ ap (λ (digits : List ℕ). joined (padded 40 digits)) name_is

-- names are kept alike exactly if they are one
pub same_kept : (mine theirs : List ℕ) (len : ℕ) (xs ys : List ℕ) → IsPadded 40 (λ d. d < 16) (halves mine) len
    → IsPadded 40 (λ d. d < 16) (halves theirs) len → take len (halves mine) ≡ xs → take len (halves theirs) ≡ ys
    → pointwise nat_eq mine theirs ≡ pointwise nat_eq xs ys
same_kept mine theirs len xs ys mine_padded theirs_padded mine_is theirs_is =
    let there : mine ≡ theirs → xs ≡ ys =
    λ same. sym mine_is ∙ ap (λ (bytes : List ℕ). take len (halves bytes)) same ∙ theirs_is in
    let back : xs ≡ ys → mine ≡ theirs =
    λ same. sym (unpacked mine len mine_padded) ∙ ap (λ (digits : List ℕ). joined (padded 40 digits)) (mine_is ∙ same ∙ sym theirs_is)
    ∙ unpacked theirs len theirs_padded in
    same_tests (pointwise nat_eq mine theirs) (pointwise nat_eq xs ys)
    (λ same. (bytes_eq-Decides xs ys).1 (there ((bytes_eq-Decides mine theirs).0 same)))
    (λ same. (bytes_eq-Decides mine theirs).1 (back ((bytes_eq-Decides xs ys).0 same)))
