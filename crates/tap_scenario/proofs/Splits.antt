-- a text and its words
-- Cited above: words-join
use Rattle.std.proofs.Common.{◌≡◌, ◌==◌, ℕ, ◌+◌, ◌≤◌, nat_lt, arith, List, [], ◌∷◌, length, take, drop, None, Some, position, refl, ap, ◌∙◌, inl, inr}
use Rattle.std.specs.List.{position_or_len, join_with_byte, AllByRecursion}
use Rattle.std.proofs.lemmas.Bool.{cases_Bool, ltb-true, ltb-false}
use Rattle.std.proofs.lemmas.List.Sums.{fails_before_first}
use Rattle.std.proofs.lemmas.List.Splits.{slice_split_none, slice_split_at, slice_split_first}
use Rattle.tap_scenario.specs.Words.{HasNoSpace, words}

-- the first word ends at the first space
pub words-at_space : (text : List ℕ) (at : ℕ) → position (λ byte. byte == 32) text ≡ Some at
    → words text ≡ take at text ∷ words (drop (at + 1) text)
words-at_space text at found =
    elim (cases_Bool (nat_lt (position_or_len (λ byte. byte == 32) text) (length text))) [
      | inl inside ↦
          let here : Some (position_or_len (λ byte. byte == 32) text) ≡ Some at = rw inside at found in
          let same : position_or_len (λ byte. byte == 32) text ≡ at = cc in
          rw (← same) (slice_split_first (λ byte. byte == 32) text 0 (ltb-true _ _ inside))
      | inr none ↦ let other : None ≡ Some at = rw none at found in absurd (cc)
    ]

-- if there is no space, the text is the one word
pub words-no_space : (text : List ℕ) → position (λ byte. byte == 32) text ≡ None → words text ≡ text ∷ []
words-no_space text none =
    elim (cases_Bool (nat_lt (position_or_len (λ byte. byte == 32) text) (length text))) [
      | inl inside ↦ let other : Some (position_or_len (λ byte. byte == 32) text) ≡ None = rw inside at none in absurd (cc)
      | inr all ↦
          let far : length text ≤ position_or_len (λ byte. byte == 32) text = ltb-false _ _ all in
          slice_split_none (λ byte. byte == 32) text (λ k d h. fails_before_first (λ byte. byte == 32) text k d (omega arith))
    ]

-- words with a space between them are read back
pub words-join : (first : List ℕ) (others : List (List ℕ)) → HasNoSpace first → AllByRecursion HasNoSpace others
    → words (join_with_byte 32 (first ∷ others)) ≡ first ∷ others
words-join first [] here there = slice_split_none (λ byte. byte == 32) first here
words-join first (second ∷ others) here there =
    slice_split_at (λ byte. byte == 32) first 32 (join_with_byte 32 (second ∷ others)) here refl
    ∙ ap (λ more. first ∷ more) (words-join second others there.0 there.1)
