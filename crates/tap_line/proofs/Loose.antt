-- hexadecimal digits that are taken at once
use Rattle.std.proofs.Common.{◌≡◌, ◌&&◌, ℕ, zero, suc, ◌+◌, ◌*◌, ◌/◌, ◌%◌, ◌<◌, Bool, true, false, arith, List, [], ◌∷◌, ◌++◌, length, drop, get_or, map, replicate, set, slice_index, take, All, Option, None, Some, refl, ap, sym, subst, ◌∙◌}
use Rattle.std.specs.List.{list_all}
use Rattle.std.proofs.lemmas.Bool.{and_parts, eqb-true, false≢true}
use Rattle.std.proofs.lemmas.Bool.Decides.{nat_tests}
use Rattle.std.proofs.lemmas.List.{length-map, map-append, take_more, take_more_set}
use Rattle.std.proofs.lemmas.List.Folds.{list_all-append}
use Rattle.std.proofs.lemmas.List.Elements.{All-append, All-cons, All-drop, All-head, All-nil, All-replicate, All-tail}
use Rattle.hex.specs.Hex.{encode_lower, encode_with, lower_digits}
use Rattle.tap_name.specs.Digits.{text_of_digit}
use Rattle.tap_name.specs.Name.{text_of_name}
use Rattle.tap_name.specs.Packed.{joined}
use Rattle.tap_name.proofs.Halves.{joined_front}
use Rattle.tap_report.proofs.TextLemmas.{lower_digit}
use Rattle.tap_line.specs.Front.{bytes_of_hex}
use Rattle.tap_line.specs.Hexadecimal.{is_digit, loose_value}
use Rattle.tap_line.specs.Line.{AreBytes}
use Rattle.tap_line.proofs.Hexes.{hex_back, hex_told}

-- it is the value of a digit
pub loose_small : (byte : ℕ) → loose_value byte < 16
loose_small byte = omega arith

-- each of them is
pub loose_digits : (text : List ℕ) → All (λ digit. digit < 16) (map loose_value text)
loose_digits [] = All-nil (λ digit. digit < 16)
loose_digits (byte ∷ text) = All-cons (λ digit. digit < 16) (loose_value byte) (map loose_value text) (loose_small byte) (loose_digits text)

-- digits are the text of what they are taken as
digits_told : (text : List ℕ) → list_all is_digit text ≡ true → text_of_name (map loose_value text) ≡ text
digits_told [] all = refl
digits_told (byte ∷ text) all =
    let parts = and_parts (is_digit byte) (list_all is_digit text) all in
    let first = eqb-true (text_of_digit (loose_value byte)) byte parts.0 in
    let others = digits_told text parts.1 in
    cc

-- the text of pairs of digits is that of the bytes that they are
pairs_told : (n : ℕ) (digits : List ℕ) → length digits ≡ 2 * n → All (λ digit. digit < 16) digits
    → (encode_lower (joined digits) ≡ text_of_name digits) × AreBytes (joined digits)
unfolding encode_with
pairs_told zero [] len all = (refl, All-nil (λ byte. byte < 256))
pairs_told zero (x ∷ digits) len all = absurd (omega (arith, len))
pairs_told (suc n) [] len all = absurd (omega (arith, len))
pairs_told (suc n) (x ∷ []) len all = absurd (omega (arith, len))
pairs_told (suc n) (x ∷ y ∷ digits) len all =
    let after = All-tail (λ digit. digit < 16) x (y ∷ digits) all in
    let first : x < 16 = All-head (λ digit. digit < 16) x (y ∷ digits) all in
    let second : y < 16 = All-head (λ digit. digit < 16) y digits after in
    let more = pairs_told n digits (omega (arith, len)) (All-tail (λ digit. digit < 16) y digits after) in
    let high : (x * 16 + y) / 16 ≡ x = omega arith in
    let low : (x * 16 + y) % 16 ≡ y = omega arith in
    let one : slice_index lower_digits ((x * 16 + y) / 16) ≡ text_of_digit x = ap (slice_index lower_digits) high ∙ sym (lower_digit x first) in
    let two : slice_index lower_digits ((x * 16 + y) % 16) ≡ text_of_digit y = ap (slice_index lower_digits) low ∙ sym (lower_digit y second) in
    let rest = more.0 in
    (cc (one, two, rest), All-cons (λ byte. byte < 256) (x * 16 + y) (joined digits) (omega arith) more.1)

-- an even number of digits is read as the bytes of their pairs
pub digits_read : (n : ℕ) (text : List ℕ) → length text ≡ 2 * n → list_all is_digit text ≡ true
    → bytes_of_hex text ≡ Some (joined (map loose_value text))
digits_read n text len all =
    let pairs = pairs_told n (map loose_value text) (length-map text loose_value ∙ len) (loose_digits text) in
    let whole : encode_lower (joined (map loose_value text)) ≡ text = pairs.0 ∙ digits_told text all in
    ap bytes_of_hex (sym whole) ∙ hex_told (joined (map loose_value text)) pairs.1

-- ---- and nothing else is

digit_is : (digit : ℕ) → digit < 16 → is_digit (text_of_digit digit) ≡ true
digit_is digit below = grind (arith, nat_tests)

lower_is : (digit : ℕ) → digit < 16 → is_digit (slice_index lower_digits digit) ≡ true
lower_is digit below = subst (λ byte. is_digit byte ≡ true) (lower_digit digit below) (digit_is digit below)

all_digits : (bytes : List ℕ) → AreBytes bytes → list_all is_digit (encode_lower bytes) ≡ true
unfolding encode_with
all_digits [] are = refl
all_digits (byte ∷ bytes) are =
    let small : byte < 256 = All-head (λ b. b < 256) byte bytes are in
    let more = all_digits bytes (All-tail (λ b. b < 256) byte bytes are) in
    let high = lower_is (byte / 16) (omega arith) in
    let low = lower_is (byte % 16) (omega arith) in
    rw (high, low) more

-- a text with another byte isn't read
pub others_unread : (text : List ℕ) → list_all is_digit text ≡ false → bytes_of_hex text ≡ None
others_unread text other = go (bytes_of_hex text) refl
  where
    go : (read : Option (List ℕ)) → bytes_of_hex text ≡ read → read ≡ None
    go None is = refl
    go (Some bytes) is =
        let back = hex_back text bytes is in
        let all : list_all is_digit text ≡ true = ap (list_all is_digit) back.0 ∙ all_digits bytes back.1 in
        absurd (false≢true (sym other ∙ all))

-- nor an odd number of digits
pub odd_unread : (text : List ℕ) → length text % 2 ≡ 1 → bytes_of_hex text ≡ None
odd_unread text odd = rw odd refl

-- ---- one byte after the other

pub all_more : (text : List ℕ) (at : ℕ) (good : Bool) → at < length text → good ≡ list_all is_digit (take at text)
    → (good && is_digit (get_or text at 0)) ≡ list_all is_digit (take (at + 1) text)
all_more text at good inside is =
    alone (is_digit (get_or text at 0)) good ∙ ap (λ before. before && (is_digit (get_or text at 0) && true)) is
    ∙ sym (ap (list_all is_digit) (take_more text at 0 inside) ∙ list_all-append is_digit (take at text) (get_or text at 0 ∷ []))
  where
    alone : (here before : Bool) → (before && here) ≡ (before && (here && true))
    alone true true = refl
    alone true false = refl
    alone false true = refl
    alone false false = refl

pub taken_more : (text values : List ℕ) (at : ℕ) → at < length text → length values ≡ length text
    → take at values ≡ map loose_value (take at text)
    → take (at + 1) (set values at (loose_value (get_or text at 0))) ≡ map loose_value (take (at + 1) text)
taken_more text values at inside room is =
    take_more_set values at (loose_value (get_or text at 0)) (omega (arith, room, inside))
    ∙ ap (λ (front : List ℕ). front ++ loose_value (get_or text at 0) ∷ []) is
    ∙ sym (ap (map loose_value) (take_more text at 0 inside) ∙ map-append loose_value (take at text) (get_or text at 0 ∷ []))

-- ---- digits in the first of many places

pub few_joined : (n : ℕ) (text front others : List ℕ) → length text ≡ 2 * n → front ≡ map loose_value text
    → take n (joined (front ++ others)) ≡ joined (map loose_value text)
few_joined n text front others len is =
    ap (λ (digits : List ℕ). take n (joined (digits ++ others))) is
    ∙ joined_front n (map loose_value text) others (length-map text loose_value ∙ len)

pub few_digits : (text front : List ℕ) (skipped count : ℕ) → front ≡ map loose_value text
    → All (λ digit. digit < 16) (front ++ drop skipped (replicate count 0))
few_digits text front skipped count is =
    All-append (λ digit. digit < 16) front (drop skipped (replicate count 0))
    (subst (All (λ digit. digit < 16)) (sym is) (loose_digits text))
    (All-drop (λ digit. digit < 16) skipped (replicate count 0) (All-replicate (λ digit. digit < 16) count 0 (omega arith)))
