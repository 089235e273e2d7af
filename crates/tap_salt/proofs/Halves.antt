-- the halves of bytes, and those of one byte more written into a list of digits
use Rattle.std.proofs.Common.{◌≡◌, ◌++◌, ◌+◌, ◌-◌, ◌*◌, ◌/◌, ◌%◌, ◌<◌, ◌∙◌, ℕ, suc, List, [], ◌∷◌, take, replicate, length, set, get_or, take_all, refl, ap, arith}
use Rattle.std.proofs.lemmas.List.{take_more, length-take-le, append-nil, append_assoc, set-append_right}
use Rattle.tap_name.specs.Packed.{halves}
use Rattle.tap_name.proofs.Halves.{halves-length}

halves_last : (bytes : List ℕ) (byte : ℕ) → halves (bytes ++ byte ∷ []) ≡ halves bytes ++ byte / 16 ∷ byte % 16 ∷ []
halves_last [] byte = refl
halves_last (first ∷ others) byte = ap (λ digits. first / 16 ∷ first % 16 ∷ digits) (halves_last others byte)

zeros : (many left : ℕ) → many ≡ suc (suc left) → replicate {A = ℕ} many 0 ≡ 0 ∷ 0 ∷ replicate left 0
zeros many left is = ap (λ n. replicate {A = ℕ} n 0) is

-- the first two of these places
put_first : (front rest : List ℕ) (at x high : ℕ) → length front ≡ at → set (front ++ x ∷ rest) at high ≡ front ++ high ∷ rest
put_first front rest at x high len =
    let here : at - at ≡ 0 = omega arith in set-append_right front (x ∷ rest) at at high len (omega arith) ∙ rw here refl

put_second : (front rest : List ℕ) (at x y low : ℕ) → length front ≡ at
    → set (front ++ x ∷ y ∷ rest) (at + 1) low ≡ front ++ x ∷ low ∷ rest
put_second front rest at x y low len =
    let next : at + 1 - at ≡ 1 = omega arith in set-append_right front (x ∷ y ∷ rest) at (at + 1) low len (omega arith) ∙ rw next refl

put_two : (digits front : List ℕ) (many left at high low : ℕ) → digits ≡ front ++ replicate many 0 → length front ≡ at
    → many ≡ suc (suc left) → set (set digits at high) (at + 1) low ≡ front ++ high ∷ low ∷ replicate left 0
put_two digits front many left at high low is len more =
    rw (is, zeros many left more, put_first front (0 ∷ replicate left 0) at 0 high len) (put_second front (replicate left 0) at high 0 low len)

-- the halves of the next of twenty bytes are written after those of the bytes before it
pub halves-more : (digits bytes : List ℕ) (at : ℕ) → at < length bytes → length bytes ≡ 20
    → digits ≡ halves (take at bytes) ++ replicate (40 - 2 * at) 0
    → set (set digits (2 * at) (get_or bytes at 0 / 16)) (2 * at + 1) (get_or bytes at 0 % 16)
    ≡ halves (take (at + 1) bytes) ++ replicate (40 - 2 * (at + 1)) 0
halves-more digits bytes at more twenty is =
    let len : length (halves (take at bytes)) ≡ 2 * at =
    halves-length (take at bytes) ∙ ap (λ n. 2 * n) (length-take-le at bytes (omega arith)) in
    put_two digits (halves (take at bytes)) (40 - 2 * at) (40 - 2 * (at + 1)) (2 * at) _ _ is len (omega arith)
    ∙ rw (take_more bytes at 0 more, halves_last (take at bytes) (get_or bytes at 0), append_assoc (halves (take at bytes))) refl

-- once those of all twenty bytes are written, nothing is left over
pub halves-all : (digits bytes : List ℕ) (at : ℕ) → at ≡ 20 → length bytes ≡ 20
    → digits ≡ halves (take at bytes) ++ replicate (40 - 2 * at) 0 → digits ≡ halves bytes
halves-all digits bytes at end twenty is =
    let all : take at bytes ≡ bytes = take_all at bytes (omega arith) in
    let none : replicate {A = ℕ} (40 - 2 * at) 0 ≡ [] = ap (λ n. replicate {A = ℕ} (40 - 2 * n) 0) end in
    is ∙ rw (all, none) (append-nil (halves bytes))
