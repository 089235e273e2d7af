-- What is printed into the first places of a room, after what is there: a text, digits of a name, and the digits of bytes.
use Rattle.std.proofs.Common.{◌≡◌, ℕ, ◌+◌, ◌-◌, ◌/◌, ◌%◌, ◌<◌, ◌≤◌, List, [], ◌∷◌, ◌++◌, length, take, refl, ap, sym, append_assoc, take-add, take_all, ◌∙◌, arith}
use Rattle.std.specs.Prelude.{slice_index, slice_range}
use Rattle.std.proofs.Math.Seq.{take-append-add}
use Rattle.std.proofs.lemmas.List.{length-take-le, take-append-le}
use Rattle.std.proofs.lemmas.List.FromFn.{get_or-map-range_with_len}
use Rattle.hex.specs.Hex.{encode_lower, encode_with, lower_digits}
use Rattle.tap_name.specs.Digits.{text_of_digit}
use Rattle.tap_name.specs.Name.{text_of_name}

-- a text after what is there, if so much of it is kept
pub put_after : (room text rest : List ℕ) (len count : ℕ) → len ≤ length room → count ≤ length text
    → take (len + count) (take len room ++ (text ++ rest)) ≡ take len room ++ take count text
put_after room text rest len count fits within =
    let front : length (take len room) ≡ len = length-take-le len room fits in
    ap (λ n. take (n + count) (take len room ++ (text ++ rest))) (sym front) ∙ take-append-add (take len room) (text ++ rest) count
    ∙ ap (λ (first : List ℕ). take len room ++ first) (take-append-le count text rest within)

few_texts : (digits others : List ℕ) → take (length digits) (text_of_name (digits ++ others)) ≡ text_of_name digits
few_texts [] others = refl
few_texts (digit ∷ digits) others = ap (λ (text : List ℕ). text_of_digit digit ∷ text) (few_texts digits others)

-- the digits of a name that are printed there
pub few_printed : (digits front others text : List ℕ) → front ≡ digits → text ≡ text_of_name (front ++ others)
    → take (length digits) text ≡ text_of_name digits
few_printed digits front others text is all =
    ap (take (length digits)) (all ∙ ap (λ (first : List ℕ). text_of_name (first ++ others)) is) ∙ few_texts digits others

-- the digits in their order
pub digit_printed : (d : ℕ) → d < 16 → text_of_digit d ≡ slice_index lower_digits d
digit_printed d below = sym (get_or-map-range_with_len text_of_digit 0 16 d d 0 below (omega arith))

encoded_append : (bytes more : List ℕ) → encode_lower (bytes ++ more) ≡ encode_lower bytes ++ encode_lower more
unfolding encode_with
encoded_append [] more = refl
encoded_append (byte ∷ bytes) more =
    ap (λ (text : List ℕ). slice_index lower_digits (byte / 16) ∷ slice_index lower_digits (byte % 16) ∷ text) (encoded_append bytes more)

-- a piece is printed after all before it
pub piece_printed : (old so_far bytes : List ℕ) (from to : ℕ) → from ≤ to → so_far ≡ old ++ encode_lower (take from bytes)
    → so_far ++ encode_lower (slice_range bytes from to) ≡ old ++ encode_lower (take to bytes)
piece_printed old so_far bytes from to later is =
    let front = encode_lower (take from bytes) in
    let sum : to ≡ from + (to - from) = omega (arith, later) in
    let all : encode_lower (take to bytes) ≡ front ++ encode_lower (slice_range bytes from to) =
    ap (λ n. encode_lower (take n bytes)) sum ∙ ap encode_lower (take-add from (to - from) bytes)
    ∙ encoded_append (take from bytes) (slice_range bytes from to) in
    ap (λ (text : List ℕ). text ++ encode_lower (slice_range bytes from to)) is
    ∙ append_assoc old front (encode_lower (slice_range bytes from to)) ∙ sym (ap (λ (text : List ℕ). old ++ text) all)

-- and all are printed in the end
pub all_printed : (old so_far bytes : List ℕ) (done : ℕ) → length bytes ≤ done → so_far ≡ old ++ encode_lower (take done bytes)
    → so_far ≡ old ++ encode_lower bytes
all_printed old so_far bytes done end is = is ∙ ap (λ (front : List ℕ). old ++ encode_lower front) (take_all done bytes end)
