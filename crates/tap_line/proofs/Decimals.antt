-- words of decimal digits, and the numbers that they write
use Rattle.std.proofs.Common.{◌≡◌, ◌&&◌, ℕ, zero, suc, ◌+◌, ◌-◌, ◌*◌, ◌^◌, ◌<◌, ◌≤◌, nat_lt, bytes_eq, arith, List, length, length-take-le, get_or, take, decimal, None, Some, true, refl, ap, sym, subst, ◌∙◌, inl, inr}
use Rattle.std.specs.Char.{digit_value}
use Rattle.std.specs.Int.{IsInRange}
use Rattle.std.specs.Str.Parse.{AllDigits, digits_value}
use Rattle.std.proofs.lemmas.Bool.{and_parts, cases_Bool, lt-ltb, ltb-true}
use Rattle.std.proofs.lemmas.Fmt.{decimal-digits_value, decimal_digit, decimal_is_IsNumeral, first_decimal}
use Rattle.std.proofs.lemmas.Int.Digits.{digits_more, digits_value_more}
use Rattle.std.proofs.lemmas.Slice.Eq.{bytes_eq-Decides}
use Rattle.std.proofs.lemmas.Str.{digit_value_digit}
use Rattle.std.proofs.lemmas.Str.Parse.{digits_value_short, numerals_by_value, tells_digits}
use Rattle.tap_scenario.specs.Step.{number_below}

-- so few digits write a number below this
pub few_digits : (word : List ℕ) (count : ℕ) → AllDigits 10 word → length word ≤ count → digits_value 10 word < 10 ^ count
few_digits word count all few = digits_value_short (numerals_by_value _ tells_digits) word count all few

-- a word is no number if it isn't the text of the number that it would be
unless_text : (limit : ℕ) (word : List ℕ) → (word ≡ decimal (digits_value 10 word) → digits_value 10 word < limit → ⊥)
    → number_below limit word ≡ None
unless_text limit word differs =
    elim (cases_Bool (bytes_eq word (decimal (digits_value 10 word)) && nat_lt (digits_value 10 word) limit)) [
      | inr other ↦ rw other refl
      | inl both ↦
          let parts = and_parts (bytes_eq word (decimal (digits_value 10 word))) (nat_lt (digits_value 10 word) limit) both in
          absurd (differs ((bytes_eq-Decides word (decimal (digits_value 10 word))).0 parts.0) (ltb-true (digits_value 10 word) limit parts.1))
    ]

-- digits with no leading zero are the number that they write
pub plain_number : (limit : ℕ) (word : List ℕ) → AllDigits 10 word → 0 < length word → length word ≤ 19
    → (get_or word 0 0 ≡ 48 → length word ≡ 1) → digits_value 10 word < limit → number_below limit word ≡ Some (digits_value 10 word)
plain_number limit word all some few lead below =
    let small : digits_value 10 word < 2 ^ 64 = omega (arith, few_digits word 19 all few) in
    let text = decimal-digits_value (numerals_by_value _ tells_digits) word all some lead small in
    let same : bytes_eq word (decimal (digits_value 10 word)) ≡ true =
    (bytes_eq-Decides word (decimal (digits_value 10 word))).1 (sym text) in
    rw (same, lt-ltb (digits_value 10 word) limit below) refl

-- a greater number isn't read
pub great_number : (limit : ℕ) (word : List ℕ) → limit ≤ digits_value 10 word → number_below limit word ≡ None
great_number limit word great = unless_text limit word (λ text below. omega arith)

-- nor is nothing
pub empty_word : (limit : ℕ) (word : List ℕ) → limit ≤ 2 ^ 64 → length word ≡ 0 → number_below limit word ≡ None
empty_word limit word most none =
    unless_text limit word (λ text below.
    let some = (decimal_is_IsNumeral (digits_value 10 word) (omega arith)).0.0 in
    let same : length word ≡ length (decimal (digits_value 10 word)) = ap length text in
    omega arith)

-- nor anything but digits
pub no_digits : (limit : ℕ) (word : List ℕ) → limit ≤ 2 ^ 64 → (AllDigits 10 word → ⊥) → number_below limit word ≡ None
no_digits limit word most other =
    unless_text limit word (λ text below.
    other (subst (AllDigits 10) (sym text) (decimal_is_IsNumeral (digits_value 10 word) (omega arith)).0.1))

zero_leads : (n : ℕ) → n < 2 ^ 64 → get_or (decimal n) 0 0 ≡ 48 → length (decimal n) ≡ 1
zero_leads zero small zero_first = ap length (decimal_digit 0 (omega arith))
zero_leads (suc n) small zero_first = let first = first_decimal (suc n) (omega arith) small in absurd (omega arith)

-- nor a zero before other digits
pub leading_zero : (limit : ℕ) (word : List ℕ) → limit ≤ 2 ^ 64 → 1 < length word → get_or word 0 0 ≡ 48 → number_below limit word ≡ None
leading_zero limit word most more first =
    unless_text limit word (λ text below.
    let alone = zero_leads (digits_value 10 word) (omega arith) (ap (λ w. get_or w 0 0) (sym text) ∙ first) in
    let same : length word ≡ length (decimal (digits_value 10 word)) = ap length text in
    omega arith)

-- the next digit of a number
pub next_digit : (digits : List ℕ) (at value : ℕ) → at < length digits → AllDigits 10 (take at digits) → value ≡ digits_value 10 (take at digits)
    → IsInRange 48 57 (get_or digits at 0)
    → AllDigits 10 (take (at + 1) digits) × (value * 10 + (get_or digits at 0 - 48) ≡ digits_value 10 (take (at + 1) digits))
next_digit digits at value inside all is range =
    let same = digit_value_digit (get_or digits at 0) range in
    let digit : digit_value (get_or digits at 0) ≡ get_or digits at 0 - 48 = omega (arith, same, range) in
    (digits_more 10 digits at inside all (omega (arith, digit, range)), omega (arith, digits_value_more 10 digits at inside, is, digit))

-- the number of the digits before one of the nineteenth at most is small
pub before_digit : (digits : List ℕ) (at value : ℕ) → at < length digits → length digits ≤ 19 → AllDigits 10 (take at digits)
    → value ≡ digits_value 10 (take at digits) → value < 10 ^ 18
before_digit digits at value inside few all is =
    let len = length-take-le at digits (omega (arith, inside)) in
    omega (arith, is, few_digits (take at digits) 18 all (omega (arith, len, inside, few)))
