-- twenty bytes by two words of eight and one of four
use Rattle.std.proofs.Common.{◌≡◌, ◌∙◌, inl, inr, ℕ, ◌+◌, ◌-◌, ◌<◌, ◌≤◌, List, length, get_or, take, drop, nat_eq, true, arith, ap, sym, refl}
use Rattle.std.proofs.lemmas.Bool.{cases_lt}
use Rattle.std.proofs.lemmas.Bool.Decides.{nat_tests}
use Rattle.std.proofs.lemmas.List.{ext_get_or, get_or-drop, get_or-take, get_or_past, length-drop, length-take, length-take-le}
use Rattle.std.proofs.lemmas.Nat.{be_bytes_4, be_bytes_8}
use Rattle.std.proofs.lemmas.Slice.Eq.{bytes_eq-Decides}
use Rattle.std.specs.Cmp.Lexicographic.{pointwise}
use Rattle.std.specs.Int.{from_be_bytes, w32, w64}
use Rattle.tap_name.proofs.Names.{same_tests}

-- so many bytes from a place on
abbrev part : ℕ → ℕ → List ℕ → List ℕ
part n at bytes = take n (drop at bytes)

part_at : (n at i : ℕ) (bytes : List ℕ) → i < n → get_or (part n at bytes) i 0 ≡ get_or bytes (at + i) 0
part_at n at i bytes within = get_or-take n (drop at bytes) i 0 within ∙ get_or-drop at bytes i 0

part_len : (n at : ℕ) (bytes : List ℕ) → length bytes ≡ 20 → at + n ≤ 20 → length (part n at bytes) ≡ n
part_len n at bytes len within = length-take-le n (drop at bytes) (omega (arith, len, length-drop at bytes))

-- bytes that aren't there count as 0
part_small : (n at : ℕ) (bytes : List ℕ) → ((i : ℕ) → get_or bytes i 0 < 256) → (i : ℕ) → get_or (part n at bytes) i 0 < 256
part_small n at bytes small i =
    elim (cases_lt i n) [
      | inl within ↦ omega (arith, part_at n at i bytes within, small (at + i))
      | inr past ↦
          let most = length-take n (drop at bytes) in
          omega (arith, get_or_past (part n at bytes) i 0 (omega (arith, most, past)))
    ]

module _ (mine theirs : List ℕ) (mine_len : length mine ≡ 20) (theirs_len : length theirs ≡ 20)
    (mine_small : (i : ℕ) → get_or mine i 0 < 256) (theirs_small : (i : ℕ) → get_or theirs i 0 < 256) where
  -- parts of one number are one
  same_eight : (at : ℕ) → at + 8 ≤ 20 → from_be_bytes w64 (part 8 at mine) ≡ from_be_bytes w64 (part 8 at theirs) → part 8 at mine ≡ part 8 at theirs
  same_eight at within same =
      sym (be_bytes_8 (part 8 at mine) (from_be_bytes w64 (part 8 at mine)) (part_len 8 at mine mine_len within) (part_small 8 at mine mine_small) refl)
      ∙ be_bytes_8 (part 8 at theirs) (from_be_bytes w64 (part 8 at mine)) (part_len 8 at theirs theirs_len within)
      (part_small 8 at theirs theirs_small) same

  same_four : from_be_bytes w32 (part 4 16 mine) ≡ from_be_bytes w32 (part 4 16 theirs) → part 4 16 mine ≡ part 4 16 theirs
  same_four same =
      sym (be_bytes_4 (part 4 16 mine) (from_be_bytes w32 (part 4 16 mine)) (part_len 4 16 mine mine_len (omega arith)) (part_small 4 16 mine mine_small) refl)
      ∙ be_bytes_4 (part 4 16 theirs) (from_be_bytes w32 (part 4 16 mine)) (part_len 4 16 theirs theirs_len (omega arith))
      (part_small 4 16 theirs theirs_small) same

  -- a byte that stands in parts that are the same
  byte_of_part : (n at i : ℕ) → at ≤ i → i < at + n → part n at mine ≡ part n at theirs → get_or mine i 0 ≡ get_or theirs i 0
  byte_of_part n at i from to same =
      let place : at + (i - at) ≡ i = omega arith in
      let within : i - at < n = omega arith in
      ap (λ k. get_or mine k 0) (sym place) ∙ sym (part_at n at (i - at) mine within)
      ∙ ap (λ (bytes : List ℕ). get_or bytes (i - at) 0) same ∙ part_at n at (i - at) theirs within ∙ ap (λ k. get_or theirs k 0) place

  same_bytes : part 8 0 mine ≡ part 8 0 theirs → part 8 8 mine ≡ part 8 8 theirs → part 4 16 mine ≡ part 4 16 theirs → mine ≡ theirs
  same_bytes first second third =
      ext_get_or 0 mine theirs (mine_len ∙ sym theirs_len) (λ i within.
      elim (cases_lt i 8) [
        | inl early ↦ byte_of_part 8 0 i (omega arith) (omega arith) first
        | inr after ↦ elim (cases_lt i 16) [
          | inl early ↦ byte_of_part 8 8 i after (omega arith) second
          | inr later ↦ byte_of_part 4 16 i later (omega (arith, mine_len, within)) third
        ]
      ])

  -- if the first two words are the same, the third tells whether all bytes are
  pub by_words : (a b : ℕ) → from_be_bytes w64 (part 8 0 mine) ≡ from_be_bytes w64 (part 8 0 theirs)
      → from_be_bytes w64 (part 8 8 mine) ≡ from_be_bytes w64 (part 8 8 theirs) → a ≡ from_be_bytes w32 (part 4 16 mine)
      → b ≡ from_be_bytes w32 (part 4 16 theirs) → nat_eq a b ≡ pointwise nat_eq mine theirs
  by_words a b first second a_is b_is =
      let there : nat_eq a b ≡ true → a ≡ b = grind (arith, nat_tests) in
      let back : a ≡ b → nat_eq a b ≡ true = grind (arith, nat_tests) in
      same_tests (nat_eq a b) (pointwise nat_eq mine theirs)
      (λ same. (bytes_eq-Decides mine theirs).1 (same_bytes (same_eight 0 (omega arith) first) (same_eight 8 (omega arith) second)
      (same_four (sym a_is ∙ there same ∙ b_is))))
      (λ same. back (a_is ∙ ap (λ (bytes : List ℕ). from_be_bytes w32 (part 4 16 bytes)) ((bytes_eq-Decides mine theirs).0 same) ∙ sym b_is))
