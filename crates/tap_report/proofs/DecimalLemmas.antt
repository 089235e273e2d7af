-- How many digits a number has in decimal, and that its digits are put after what waits.
use Rattle.std.proofs.Common.{◌≡◌, ◌≤◌, ◌<◌, ℕ, ◌+◌, ◌/◌, ◌%◌, ◌^◌, List, [], ◌∷◌, ◌++◌, length, take, drop, refl, ap, ◌∙◌, arith, length-append, take-add}
use Rattle.std.specs.Prelude.{decimal}
use Rattle.std.proofs.lemmas.Fmt.{decimal_digit, decimal_step}
use Rattle.std.proofs.lemmas.List.{take-append-le, take_all}

-- a number of one digit
pub one_digit : (n : ℕ) → n < 10 → length (decimal n) ≡ 1
one_digit n below = ap length (decimal_digit n below)

-- one digit more
more_digits : (n digits : ℕ) → 10 ≤ n → n < 2 ^ 64 → length (decimal (n / 10)) ≡ digits → length (decimal n) ≡ digits + 1
more_digits n digits least fits is =
    ap length (decimal_step n least fits) ∙ length-append (decimal (n / 10)) ((48 + n % 10) ∷ []) ∙ ap (λ k. k + 1) is

pub two_digits : (n : ℕ) → 10 ≤ n → n < 100 → length (decimal n) ≡ 2
two_digits n least below = more_digits n 1 least (omega arith) (one_digit (n / 10) (omega arith))

pub three_digits : (n : ℕ) → 100 ≤ n → n < 1000 → length (decimal n) ≡ 3
three_digits n least below = more_digits n 2 (omega arith) (omega arith) (two_digits (n / 10) (omega arith) (omega arith))

pub four_digits : (n : ℕ) → 1000 ≤ n → n < 10000 → length (decimal n) ≡ 4
four_digits n least below = more_digits n 3 (omega arith) (omega arith) (three_digits (n / 10) (omega arith) (omega arith))

pub five_digits : (n : ℕ) → 10000 ≤ n → n < 100000 → length (decimal n) ≡ 5
five_digits n least below = more_digits n 4 (omega arith) (omega arith) (four_digits (n / 10) (omega arith) (omega arith))

pub six_digits : (n : ℕ) → 100000 ≤ n → n < 1000000 → length (decimal n) ≡ 6
six_digits n least below = more_digits n 5 (omega arith) (omega arith) (five_digits (n / 10) (omega arith) (omega arith))

pub seven_digits : (n : ℕ) → 1000000 ≤ n → n < 10000000 → length (decimal n) ≡ 7
seven_digits n least below = more_digits n 6 (omega arith) (omega arith) (six_digits (n / 10) (omega arith) (omega arith))

pub eight_digits : (n : ℕ) → 10000000 ≤ n → n < 100000000 → length (decimal n) ≡ 8
eight_digits n least below = more_digits n 7 (omega arith) (omega arith) (seven_digits (n / 10) (omega arith) (omega arith))

pub nine_digits : (n : ℕ) → 100000000 ≤ n → n < 1000000000 → length (decimal n) ≡ 9
nine_digits n least below = more_digits n 8 (omega arith) (omega arith) (eight_digits (n / 10) (omega arith) (omega arith))

pub ten_digits : (n : ℕ) → 1000000000 ≤ n → n < 10000000000 → length (decimal n) ≡ 10
ten_digits n least below = more_digits n 9 (omega arith) (omega arith) (nine_digits (n / 10) (omega arith) (omega arith))

-- digits that are put at a place stand after what stood before it
pub put_after : (old new digits rest : List ℕ) (place end : ℕ) → place + length digits ≡ end → take place new ≡ take place old
    → drop place new ≡ digits ++ rest → take end new ≡ take place old ++ digits
put_after old new digits rest place end is before written =
    let front : take (length digits) (digits ++ rest) ≡ digits =
    take-append-le (length digits) digits rest (omega arith) ∙ take_all (length digits) digits (omega arith) in
    rw (← is, take-add place (length digits) new, before, written, front) refl
