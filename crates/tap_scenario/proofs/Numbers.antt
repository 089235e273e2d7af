-- a number and its text
-- Cited above: no_space_decimal, number_below-back, number_below-decimal
use Rattle.std.proofs.Common.{◌≡◌, ◌==◌, ◌&&◌, ℕ, ◌^◌, ◌<◌, nat_lt, true, false, bytes_eq, arith, List, [], ◌∷◌, Option, None, Some, refl, ap, subst, ◌∙◌, inl, inr}
use Rattle.std.specs.Prelude.{decimal}
use Rattle.std.specs.Str.Parse.{AllDigits, digits_value}
use Rattle.std.specs.Char.{digit_value}
use Rattle.std.proofs.lemmas.Bool.{cases_Bool, and_parts, ltb-true, lt-ltb, ne_eqb}
use Rattle.std.proofs.lemmas.Fmt.{decimal_is_IsNumeral}
use Rattle.std.proofs.lemmas.List.Elements.{All-nil, All-cons}
use Rattle.std.proofs.lemmas.Slice.Eq.{bytes_eq-Decides}
use Rattle.tap_scenario.specs.Step.{number_below}
use Rattle.tap_scenario.specs.Words.{HasNoSpace}

-- a number's text is read as that number
pub number_below-decimal : (limit n : ℕ) (word : List ℕ) → n < limit → n < 2 ^ 64 → word ≡ decimal n → number_below limit word ≡ Some n
number_below-decimal limit n word below small is =
    let value : digits_value 10 word ≡ n = ap (digits_value 10) is ∙ (decimal_is_IsNumeral n small).1 in
    let same : bytes_eq word (decimal n) ≡ true = (bytes_eq-Decides word (decimal n)).1 is in
    rw (value, same, lt-ltb n limit below) refl

-- a word that is read as a number is that number's text
pub number_below-back : (limit n : ℕ) (word : List ℕ) → number_below limit word ≡ Some n → (word ≡ decimal n) × (n < limit)
number_below-back limit n word read =
    elim (cases_Bool (bytes_eq word (decimal (digits_value 10 word)) && nat_lt (digits_value 10 word) limit)) [
      | inr other ↦ absurd (let failed = rw other at read in cc)
      | inl both ↦
          let parts = and_parts (bytes_eq word (decimal (digits_value 10 word))) (nat_lt (digits_value 10 word) limit) both in
          let whole : Some (digits_value 10 word) ≡ Some n = rw both at read in
          let value : digits_value 10 word ≡ n = cc in
          let text : word ≡ decimal (digits_value 10 word) = (bytes_eq-Decides word (decimal (digits_value 10 word))).0 parts.0 in
          (text ∙ ap decimal value, rw (← value) (ltb-true (digits_value 10 word) limit parts.1))
    ]

-- a word that is no number's text is not read
pub number_below-none : (limit : ℕ) (word : List ℕ) → ((n : ℕ) → n < limit → word ≡ decimal n → ⊥) → number_below limit word ≡ None
number_below-none limit word differs = go (number_below limit word) refl
  where
    go : (o : Option ℕ) → number_below limit word ≡ o → o ≡ None
    go None e = refl
    go (Some n) e = let back = number_below-back limit n word e in absurd (differs n back.1 back.0)

digits-no_space : (digits : List ℕ) → AllDigits 10 digits → HasNoSpace digits
digits-no_space [] are = All-nil (λ byte. (byte == 32) ≡ false)
digits-no_space (digit ∷ digits) are =
    All-cons (λ byte. (byte == 32) ≡ false) digit digits
    (ne_eqb digit 32 (λ space. let below : digit_value 32 < 10 = subst (λ byte. digit_value byte < 10) space are.0 in
    absurd (omega arith))) (digits-no_space digits are.1)

-- the text of a number has no space
pub no_space_decimal : (n : ℕ) → n < 2 ^ 64 → HasNoSpace (decimal n)
no_space_decimal n small = digits-no_space (decimal n) (decimal_is_IsNumeral n small).0.1
