-- The texts of two digits each, as they are looked up.
use Rattle.std.proofs.Common.{◌≡◌, ◌∙◌, ◌+◌, ◌*◌, ◌/◌, ◌%◌, ◌<◌, ◌==◌, ◌&&◌, Bool, true, inl, inr, ℕ, zero, suc, List, [], ◌∷◌, ◌++◌, length, length-set, take, set, get_or, ap, arith, refl, sym}
use Rattle.std.proofs.lemmas.Bool.{and_parts, cases_lt, eqb-true}
use Rattle.std.proofs.lemmas.List.{map-append, take_more, take_more_set}
use Rattle.tap_name.specs.Digits.{text_of_digit}
use Rattle.tap_name.specs.Name.{text_of_name}
use Rattle.tap_report.specs.declared.pairs.TheConstants.{TEXTS}

-- whether the text of the digits of a number stands at its place
abbrev is_text : ℕ → Bool
is_text n = get_or TEXTS (2 * n) 0 == text_of_digit (n / 16) && get_or TEXTS (2 * n + 1) 0 == text_of_digit (n % 16)

-- whether those of all numbers below one do
abbrev are_texts : ℕ → Bool
are_texts zero = true
are_texts (suc n) = is_text n && are_texts n

text_below : (n pair : ℕ) → are_texts n ≡ true → pair < n → is_text pair ≡ true
text_below zero pair all below = absurd (omega arith)
text_below (suc n) pair all below =
    let parts = and_parts (is_text n) (are_texts n) all in
    elim (cases_lt pair n) [
      | inl less ↦ text_below n pair parts.1 less
      | inr last ↦
          let e : pair ≡ n = omega arith in
          rw e parts.0
    ]

-- the text of two digits stands at the place of their number
pub text_of_two : (first second : ℕ) → first < 16 → second < 16
    → (get_or TEXTS (2 * (16 * first + second)) 0 ≡ text_of_digit first)
    × (get_or TEXTS (2 * (16 * first + second) + 1) 0 ≡ text_of_digit second)
text_of_two first second first_below second_below =
    let pair = 16 * first + second in
    let high : pair / 16 ≡ first = omega (arith, second_below) in
    let low : pair % 16 ≡ second = omega (arith, second_below) in
    let parts = and_parts _ _ (text_below 256 pair refl (omega (arith, first_below, second_below))) in (
      eqb-true (get_or TEXTS (2 * pair) 0) (text_of_digit (pair / 16)) parts.0 ∙ ap text_of_digit high,
      eqb-true (get_or TEXTS (2 * pair + 1) 0) (text_of_digit (pair % 16)) parts.1 ∙ ap text_of_digit low,
    )

-- one digit more is printed
one_more : (text digits : List ℕ) (at : ℕ) → at < length text → at < length digits → take at text ≡ text_of_name (take at digits)
    → take (at + 1) (set text at (text_of_digit (get_or digits at 0))) ≡ text_of_name (take (at + 1) digits)
one_more text digits at place digit is =
    let next : List ℕ = get_or digits at 0 ∷ [] in
    take_more_set text at (text_of_digit (get_or digits at 0)) place ∙ ap (λ (front : List ℕ). front ++ text_of_name next) is
    ∙ sym (ap text_of_name (take_more digits at 0 digit) ∙ map-append text_of_digit (take at digits) next)

-- two digits more are printed
pub two_more : (text digits : List ℕ) (at : ℕ) → 2 * at + 1 < length text → 2 * at + 1 < length digits
    → take (2 * at) text ≡ text_of_name (take (2 * at) digits)
    → take (2 * (at + 1)) (set (set text (2 * at) (text_of_digit (get_or digits (2 * at) 0))) (2 * at + 1) (text_of_digit (get_or digits (2 * at + 1) 0)))
    ≡ text_of_name (take (2 * (at + 1)) digits)
two_more text digits at place digit is =
    let one : List ℕ = set text (2 * at) (text_of_digit (get_or digits (2 * at) 0)) in
    let len : length one ≡ length text = length-set text (2 * at) (text_of_digit (get_or digits (2 * at) 0)) in
    let next : 2 * (at + 1) ≡ 2 * at + 1 + 1 = omega arith in
    rw next
    (one_more one digits (2 * at + 1) (omega (arith, len, place)) digit
    (one_more text digits (2 * at) (omega (arith, place)) (omega (arith, digit)) is))
