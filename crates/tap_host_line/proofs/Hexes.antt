-- Hexadecimal digits that are taken at once.
use Rattle.std.proofs.Common.{◌≡◌, ℕ, zero, suc, ◌+◌, ◌-◌, ◌*◌, ◌<◌, ◌≤◌, List, [], ◌∷◌, ◌++◌, drop, length, map, replicate, take, All, Some, refl, ap, ap₂, sym, subst, ◌∙◌, append-nil, length-drop, take-add, take-append-drop, take_all, arith}
use Rattle.std.specs.Prelude.{Ok}
use Rattle.std.proofs.lemmas.Bool.Decides.{nat_tests}
use Rattle.std.proofs.Math.Seq.{take-append-add}
use Rattle.std.proofs.lemmas.List.{drop_all, length-map, length-take-le, take-append-le, take-take}
use Rattle.std.proofs.lemmas.List.Elements.{All-append, All-drop, All-head, All-replicate, All-tail}
use Rattle.hex.specs.Hex.{decode_of, decode_pairs, hex_digit_value}
use Rattle.hex.proofs.HexLemmas.{decode_of-even}
use Rattle.tap_name.specs.Digits.{digit_of_text}
use Rattle.tap_name.specs.Packed.{joined}
use Rattle.tap_name.proofs.Halves.{joined_front}
use Rattle.tap_host_line.proofs.Rooms.{put_after}

-- a digit without a capital letter is read as it is printed
digit_read : (byte : ℕ) → digit_of_text byte < 16 → hex_digit_value byte ≡ Some (digit_of_text byte)
digit_read byte small = grind (arith, nat_tests)

pairs_read : (n i : ℕ) (text : List ℕ) → length text ≡ 2 * n → All (λ digit. digit < 16) (map digit_of_text text)
    → decode_pairs i text ≡ Ok (joined (map digit_of_text text))
unfolding decode_pairs
pairs_read zero i [] len all = refl
pairs_read zero i (x ∷ text) len all = absurd (omega (arith, len))
pairs_read (suc n) i [] len all = absurd (omega (arith, len))
pairs_read (suc n) i (x ∷ []) len all = absurd (omega (arith, len))
pairs_read (suc n) i (x ∷ y ∷ text) len all =
    let after = All-tail (λ digit. digit < 16) (digit_of_text x) (map digit_of_text (y ∷ text)) all in
    let first = digit_read x (All-head (λ digit. digit < 16) (digit_of_text x) (map digit_of_text (y ∷ text)) all) in
    let second = digit_read y (All-head (λ digit. digit < 16) (digit_of_text y) (map digit_of_text text) after) in
    let others = pairs_read n (i + 2) text (omega (arith, len)) (All-tail (λ digit. digit < 16) (digit_of_text y) (map digit_of_text text) after) in
    rw (first, second, others) refl

-- an even number of digits spells the bytes of their pairs
pub digits_read : (n : ℕ) (text : List ℕ) → length text ≡ 2 * n → All (λ digit. digit < 16) (map digit_of_text text)
    → decode_of text ≡ Ok (joined (map digit_of_text text))
digits_read n text len all = decode_of-even text (omega (arith, len)) ∙ pairs_read n 0 text len all

-- ---- digits in the first of many places

pub few_read : (n : ℕ) (text front others : List ℕ) → length text ≡ 2 * n → front ≡ map digit_of_text text
    → All (λ digit. digit < 16) front → decode_of text ≡ Ok (take n (joined (front ++ others)))
few_read n text front others len is all =
    let values : All (λ digit. digit < 16) (map digit_of_text text) = subst (All (λ digit. digit < 16)) is all in
    let front_len : length front ≡ 2 * n = ap length is ∙ length-map text digit_of_text ∙ len in
    digits_read n text len values ∙ ap Ok (ap joined (sym is) ∙ sym (joined_front n front others front_len))

pub few_small : (front : List ℕ) (skipped count : ℕ) → All (λ digit. digit < 16) front
    → All (λ digit. digit < 16) (front ++ drop skipped (replicate count 0))
few_small front skipped count all =
    All-append (λ digit. digit < 16) front (drop skipped (replicate count 0)) all
    (All-drop (λ digit. digit < 16) skipped (replicate count 0) (All-replicate (λ digit. digit < 16) count 0 (omega arith)))

-- and the first of all those, as many as there are blocks for
pub few_taken : (n blocks : ℕ) (text front zeros : List ℕ) → length text ≡ 2 * n → 2 * n ≤ 64 * blocks → front ≡ map digit_of_text text
    → All (λ digit. digit < 16) front → decode_of text ≡ Ok (take n (joined (take (64 * blocks) (front ++ zeros))))
few_taken n blocks text front zeros len within is all =
    let front_len : length front ≡ 2 * n = ap length is ∙ length-map text digit_of_text ∙ len in
    let more : ℕ = 64 * blocks - length front in
    let sum : 64 * blocks ≡ length front + more = omega (arith, front_len, within) in
    let taken : take (64 * blocks) (front ++ zeros) ≡ front ++ take more zeros =
    ap (λ k. take k (front ++ zeros)) sum ∙ take-append-add front zeros more in
    few_read n text front (take more zeros) len is all ∙ ap (λ (digits : List ℕ). Ok (take n (joined digits))) (sym taken)

-- ---- digits that are taken twice: the first of them, and then the last

take_values : (n : ℕ) (text : List ℕ) → take n (map digit_of_text text) ≡ map digit_of_text (take n text)
take_values zero text = refl
take_values (suc n) [] = refl
take_values (suc n) (x ∷ text) = ap (λ (values : List ℕ). digit_of_text x ∷ values) (take_values n text)

values_after : (text more : List ℕ) → map digit_of_text (text ++ more) ≡ map digit_of_text text ++ map digit_of_text more
values_after [] more = refl
values_after (x ∷ text) more = ap (λ (values : List ℕ). digit_of_text x ∷ values) (values_after text more)

pub digits_twice : (text first rest last : List ℕ) (whole from : ℕ) → from ≤ whole → whole ≤ length text
    → first ≡ map digit_of_text (take whole text) → last ≡ map digit_of_text (drop from text)
    → take from (first ++ rest) ++ (last ++ drop (length (first ++ rest) - from) (drop from (first ++ rest))) ≡ map digit_of_text text
digits_twice text first rest last whole from less within is at_end =
    let all : List ℕ = first ++ rest in
    let size : length first ≡ whole = ap length is ∙ length-map (take whole text) digit_of_text ∙ length-take-le whole text within in
    let front : take from all ≡ map digit_of_text (take from text) =
    take-append-le from first rest (omega (arith, size, less)) ∙ ap (take from) is ∙ take_values from (take whole text)
    ∙ ap (map digit_of_text) (take-take from whole text less) in
    let none : drop (length all - from) (drop from all) ≡ [] =
    drop_all (length all - from) (drop from all) (omega (arith, length-drop from all)) in
    ap₂ (λ (a b : List ℕ). a ++ b) front (ap (λ (e : List ℕ). last ++ e) none ∙ append-nil last ∙ at_end)
    ∙ sym (values_after (take from text) (drop from text)) ∙ ap (map digit_of_text) (take-append-drop from text)

-- ---- digits that are put together block by block

-- digits after an even number of them
joined_after : (n : ℕ) (digits others : List ℕ) → length digits ≡ 2 * n → joined (digits ++ others) ≡ joined digits ++ joined others
joined_after zero [] others len = refl
joined_after zero (x ∷ digits) others len = absurd (omega (arith, len))
joined_after (suc n) [] others len = absurd (omega (arith, len))
joined_after (suc n) (x ∷ []) others len = absurd (omega (arith, len))
joined_after (suc n) (x ∷ y ∷ digits) others len =
    ap (λ (bytes : List ℕ). (x * 16 + y) ∷ bytes) (joined_after n digits others (omega (arith, len)))

pub next_joined : (values places block rest : List ℕ) (from : ℕ) → 2 * from + 64 ≤ length values → from + 32 ≤ length places
    → length block ≡ 32 → take from places ≡ joined (take (2 * from) values) → block ≡ joined (take 64 (drop (2 * from) values))
    → take (from + 32) (take from places ++ (block ++ rest)) ≡ joined (take (2 * from + 64) values)
next_joined values places block rest from within fits size before is =
    let even : length (take (2 * from) values) ≡ 2 * from = length-take-le (2 * from) values (omega (arith, within)) in
    let whole : take 32 block ≡ block = take_all 32 block (omega (arith, size)) in
    put_after places block rest from 32 (omega (arith, fits)) (omega (arith, size))
    ∙ ap₂ (λ (a b : List ℕ). a ++ b) before (whole ∙ is)
    ∙ sym (ap joined (take-add (2 * from) 64 values) ∙ joined_after from (take (2 * from) values) (take 64 (drop (2 * from) values)) even)
