-- bytes and their hexadecimal digits, without capital letters
use Rattle.std.proofs.Common.{◌≡◌, ℕ, zero, suc, ◌+◌, ◌*◌, ◌/◌, ◌%◌, ◌<◌, true, not, arith, List, [], ◌∷◌, slice_index, Option, None, Some, Result, Ok, Err, refl, ap, sym, subst, ◌∙◌, inl, inr}
use Rattle.std.specs.List.{list_all}
use Rattle.std.proofs.lemmas.Bool.{and_parts, cases_Bool}
use Rattle.std.proofs.lemmas.Bool.Decides.{nat_tests}
use Rattle.std.proofs.lemmas.List.Elements.{All-cons, All-head, All-nil, All-tail}
use Rattle.hex.specs.Hex.{IsBytes, ◌>>=◌, decode_of, decode_pairs, digit_or_error, encode_lower, encode_with, hex_digit_value, lower_digits, pair_value, value_at}
use Rattle.hex.specs.declared.error.FromHexError.{FromHexError}
use Rattle.hex.proofs.HexLemmas.{decode_of-encode_lower, decode_of-even, decode_of-ok}
use Rattle.tap_name.specs.Digits.{text_of_digit}
use Rattle.tap_report.proofs.TextLemmas.{lower_digit}
use Rattle.tap_line.specs.Front.{bytes_of_hex, is_capital, unless_capital}
use Rattle.tap_line.specs.Line.{AreBytes}

-- a digit's text is no capital letter
digit_small : (digit : ℕ) → digit < 16 → not (is_capital (text_of_digit digit)) ≡ true
digit_small digit below = grind (arith, nat_tests)

lower_small : (digit : ℕ) → digit < 16 → not (is_capital (slice_index lower_digits digit)) ≡ true
lower_small digit below = subst (λ byte. not (is_capital byte) ≡ true) (lower_digit digit below) (digit_small digit below)

-- the hexadecimal digits of bytes have no capital letter
no_capital : (bytes : List ℕ) → AreBytes bytes → list_all (λ byte. not (is_capital byte)) (encode_lower bytes) ≡ true
unfolding encode_with
no_capital [] are = refl
no_capital (byte ∷ bytes) are =
    let small : byte < 256 = All-head (λ b. b < 256) byte bytes are in
    let more = no_capital bytes (All-tail (λ b. b < 256) byte bytes are) in
    let high = lower_small (byte / 16) (omega arith) in
    let low = lower_small (byte % 16) (omega arith) in
    rw (high, low) more

bytes_are : (bytes : List ℕ) → AreBytes bytes → IsBytes bytes
bytes_are [] are i = omega arith
bytes_are (byte ∷ bytes) are zero = All-head (λ b. b < 256) byte bytes are
bytes_are (byte ∷ bytes) are (suc i) = bytes_are bytes (All-tail (λ b. b < 256) byte bytes are) i

-- the digits of bytes are read as these bytes
pub hex_told : (bytes : List ℕ) → AreBytes bytes → bytes_of_hex (encode_lower bytes) ≡ Some bytes
hex_told bytes are =
    ap (unless_capital (encode_lower bytes)) (decode_of-encode_lower bytes (bytes_are bytes are)) ∙ rw (no_capital bytes are) refl

-- ---- and only so

bind_back : {A B : Type 0} (r : Result A FromHexError) (f : A → Result B FromHexError) (y : B) → (r >>= f) ≡ Ok y
    → (x : A) × (r ≡ Ok x) × (f x ≡ Ok y)
bind_back (Ok x) f y is = (x, refl, is)
bind_back (Err fault) f y is = absurd (cc)

ok_same : {A : Type 0} (x y : A) → ◌≡◌ {A = Result A FromHexError} (Ok x) (Ok y) → x ≡ y
ok_same x y is = cc

digit_back : (c i v : ℕ) (o : Option ℕ) → digit_or_error c i o ≡ Ok v → o ≡ Some v
digit_back c i v (Some w) is = ap Some (ok_same w v is)
digit_back c i v None is = absurd (cc)

value_text : (c v : ℕ) → hex_digit_value c ≡ Some v → not (is_capital c) ≡ true → (v < 16) × (text_of_digit v ≡ c)
value_text c v is small = grind (arith, nat_tests)

digit_text : (c v : ℕ) → hex_digit_value c ≡ Some v → not (is_capital c) ≡ true → (v < 16) × (slice_index lower_digits v ≡ c)
digit_text c v is small =
    let told = value_text c v is small in
    let below = told.0 in
    (below, sym (lower_digit v below) ∙ told.1)

-- one byte and its two digits
pair_text : (byte high low a b : ℕ) → high < 16 → low < 16 → high * 16 + low ≡ byte → slice_index lower_digits high ≡ a → slice_index lower_digits low ≡ b
    → (slice_index lower_digits (byte / 16) ≡ a) × (slice_index lower_digits (byte % 16) ≡ b)
pair_text byte high low a b h l is first second =
    let above : byte / 16 ≡ high = omega arith in
    let below : byte % 16 ≡ low = omega arith in
    (ap (slice_index lower_digits) above ∙ first, ap (slice_index lower_digits) below ∙ second)

pairs_back : (i : ℕ) (text bytes : List ℕ) → decode_pairs i text ≡ Ok bytes → list_all (λ byte. not (is_capital byte)) text ≡ true
    → text ≡ encode_lower bytes
unfolding decode_pairs encode_with
pairs_back i [] bytes is small = ap encode_lower (ok_same [] bytes is)
pairs_back i (a ∷ []) bytes is small = absurd (cc)
pairs_back i (a ∷ b ∷ rest) bytes is small =
    let first = and_parts (not (is_capital a)) (list_all (λ byte. not (is_capital byte)) (b ∷ rest)) small in
    let second = and_parts (not (is_capital b)) (list_all (λ byte. not (is_capital byte)) rest) first.1 in
    let p0 = bind_back (pair_value a b i) _ bytes is in
    let p1 = bind_back (value_at a i) _ p0.0 p0.1 in
    let p2 = bind_back (value_at b (i + 1)) _ p0.0 p1.2 in
    let p3 = bind_back (decode_pairs (i + 2) rest) _ bytes p0.2 in
    let high = digit_text a p1.0 (digit_back a i p1.0 (hex_digit_value a) p1.1) first.0 in
    let low = digit_text b p2.0 (digit_back b (i + 1) p2.0 (hex_digit_value b) p2.1) second.0 in
    let byte : p1.0 * 16 + p2.0 ≡ p0.0 = ok_same (p1.0 * 16 + p2.0) p0.0 p2.2 in
    let whole : p0.0 ∷ p3.0 ≡ bytes = ok_same (p0.0 ∷ p3.0) bytes p3.2 in
    let digits = pair_text p0.0 p1.0 p2.0 a b high.0 low.0 byte high.1 low.1 in
    let more = pairs_back (i + 2) rest p3.0 p3.1 second.1 in
    let here : a ∷ b ∷ rest ≡ encode_lower (p0.0 ∷ p3.0) = cc (digits.0, digits.1, more) in
    here ∙ ap encode_lower whole

each_byte : (bytes : List ℕ) → IsBytes bytes → AreBytes bytes
each_byte [] are = All-nil (λ b. b < 256)
each_byte (byte ∷ bytes) are = All-cons (λ b. b < 256) byte bytes (are 0) (each_byte bytes (λ i. are (suc i)))

unless_capital-back : (text : List ℕ) (read : Result (List ℕ) FromHexError) (bytes : List ℕ) → unless_capital text read ≡ Some bytes
    → (read ≡ Ok bytes) × (list_all (λ byte. not (is_capital byte)) text ≡ true)
unless_capital-back text (Err fault) bytes is = absurd (cc)
unless_capital-back text (Ok found) bytes is =
    elim (cases_Bool (list_all (λ byte. not (is_capital byte)) text)) [
      | inr other ↦ absurd (let failed = rw other at is in cc)
      | inl small ↦ let same : Some found ≡ Some bytes = rw small at is in (let is : found ≡ bytes = cc in ap Ok is, small)
    ]

-- what is read as bytes is their digits
pub hex_back : (text bytes : List ℕ) → bytes_of_hex text ≡ Some bytes → (text ≡ encode_lower bytes) × AreBytes bytes
hex_back text bytes is =
    let back = unless_capital-back text (decode_of text) bytes is in
    let ok = decode_of-ok text bytes back.0 in
    let pairs : decode_pairs 0 text ≡ Ok bytes = sym (decode_of-even text ok.0) ∙ back.0 in
    (pairs_back 0 text bytes pairs back.1, each_byte bytes ok.3)
