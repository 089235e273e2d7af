-- words of decimal digits, and the numbers that they write
use Rattle.std.proofs.Common.{◌≡◌, ℕ, zero, suc, ◌+◌, ◌-◌, ◌*◌, ◌^◌, ◌<◌, ◌≤◌, arith, List, length, length-take-le, get_or, take, decimal, None, Some, ap, sym, subst, ◌∙◌}
use Rattle.std.specs.Char.{digit_value}
use Rattle.std.specs.Int.{IsInRange}
use Rattle.std.specs.Str.Parse.{AllDigits, digits_value}
use Rattle.std.proofs.lemmas.Fmt.{decimal-digits_value, decimal_digit, decimal_is_IsNumeral, first_decimal}
use Rattle.std.proofs.lemmas.Int.Digits.{digits_more, digits_value_more}
use Rattle.std.proofs.lemmas.Str.{digit_value_digit}
use Rattle.std.proofs.lemmas.Str.Parse.{digits_value_short, numerals_by_value, tells_digits}
use Rattle.tap_scenario.specs.Step.{number_below}
use Rattle.tap_scenario.proofs.Numbers.{number_below-decimal, number_below-none}

-- so few digits write a number below this
few_digits : (word : List ℕ) (count : ℕ) → AllDigits 10 word → length word ≤ count → digits_value 10 word < 10 ^ count
few_digits word count all few = digits_value_short (numerals_by_value _ tells_digits) word count all few

-- digits with no leading zero are the number that they write
pub plain_number : (limit : ℕ) (word : List ℕ) → AllDigits 10 word → 0 < length word → length word ≤ 19
    → (get_or word 0 0 ≡ 48 → length word ≡ 1) → digits_value 10 word < limit → number_below limit word ≡ Some (digits_value 10 word)
plain_number limit word all some few lead below =
    let small : digits_value 10 word < 2 ^ 64 = omega (arith, few_digits word 19 all few) in
    number_below-decimal limit (digits_value 10 word) word below small
    (sym (decimal-digits_value (numerals_by_value _ tells_digits) word all some lead small))

-- nothing is no number
pub empty_word : (limit : ℕ) (word : List ℕ) → limit ≤ 2 ^ 64 → length word ≡ 0 → number_below limit word ≡ None
empty_word limit word most none =
    number_below-none limit word (λ n below is.
    let some = (decimal_is_IsNumeral n (omega arith)).0.0 in
    let same : length word ≡ length (decimal n) = ap length is in
    omega arith)

-- nor is anything but digits
pub no_digits : (limit : ℕ) (word : List ℕ) → limit ≤ 2 ^ 64 → (AllDigits 10 word → ⊥) → number_below limit word ≡ None
no_digits limit word most other =
    number_below-none limit word (λ n below is. other (subst (AllDigits 10) (sym is) (decimal_is_IsNumeral n (omega arith)).0.1))

zero_leads : (n : ℕ) → n < 2 ^ 64 → get_or (decimal n) 0 0 ≡ 48 → length (decimal n) ≡ 1
zero_leads zero small zero_first = ap length (decimal_digit 0 (omega arith))
zero_leads (suc n) small zero_first = let first = first_decimal (suc n) (omega arith) small in absurd (omega arith)

-- nor a zero before other digits
pub leading_zero : (limit : ℕ) (word : List ℕ) → limit ≤ 2 ^ 64 → 1 < length word → get_or word 0 0 ≡ 48 → number_below limit word ≡ None
leading_zero limit word most more first =
    number_below-none limit word (λ n below is.
    let alone = zero_leads n (omega arith) (ap (λ w. get_or w 0 0) (sym is) ∙ first) in
    let same : length word ≡ length (decimal n) = ap length is in
    omega arith)

-- the next digit of a number
pub next_digit : (digits : List ℕ) (at value : ℕ) → at < length digits → AllDigits 10 (take at digits) → value ≡ digits_value 10 (take at digits)
    → IsInRange 48 57 (get_or digits at 0)
    → AllDigits 10 (take (at + 1) digits) × (value * 10 + (get_or digits at 0 - 48) ≡ digits_value 10 (take (at + 1) digits))
next_digit digits at value inside all is range =
    let same = digit_value_digit (get_or digits at 0) range in
    let digit : digit_value (get_or digits at 0) ≡ get_or digits at 0 - 48 = omega (arith, same, range) in
    (digits_more 10 digits at inside all (omega (arith, digit, range)), omega (arith, digits_value_more 10 digits at inside, is, digit))

-- the number of the digits before one of the nineteenth at most is small
pub before_digit : (digits : List ℕ) (at value : ℕ) → at < length digits → length digits ≤ 19 → AllDigits 10 (take at digits)
    → value ≡ digits_value 10 (take at digits) → value < 10 ^ 18
before_digit digits at value inside few all is =
    let len = length-take-le at digits (omega (arith, inside)) in
    omega (arith, is, few_digits (take at digits) 18 all (omega (arith, len, inside, few)))
