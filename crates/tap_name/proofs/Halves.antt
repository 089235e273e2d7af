-- bytes and their halves: two digits a byte, and back
-- Cited above: halves-digits, halves-length, joined_front
use Rattle.std.proofs.Common.{◌≡◌, ◌++◌, ◌+◌, ◌-◌, ◌*◌, ◌/◌, ◌%◌, ◌<◌, ◌≤◌, ◌∙◌, ℕ, zero, suc, List, [], ◌∷◌, take, replicate, length, length-set, set, get_or, take_all, All, refl, ap, sym, arith}
use Rattle.std.proofs.lemmas.List.{take_more, take_more_set, length-take-le, append_assoc}
use Rattle.std.proofs.lemmas.List.Elements.{All-nil, All-cons, All-head, All-tail}
use Rattle.tap_name.specs.Packed.{halves, joined}
use Rattle.tap_name.specs.Padded.{padded}

-- there are two for each byte
pub halves-length : (bytes : List ℕ) → length (halves bytes) ≡ 2 * length bytes
halves-length [] = refl
halves-length (byte ∷ bytes) = omega (arith, halves-length bytes)

-- each is a digit of base 16
pub halves-digits : (bytes : List ℕ) → All (λ byte. byte < 256) bytes → All (λ digit. digit < 16) (halves bytes)
halves-digits [] below = All-nil (λ digit. digit < 16)
halves-digits (byte ∷ bytes) below =
    let byte_below : byte < 256 = All-head (λ byte. byte < 256) byte bytes below in
    let others = halves-digits bytes (All-tail (λ byte. byte < 256) byte bytes below) in
    All-cons (λ digit. digit < 16) (byte / 16) (byte % 16 ∷ halves bytes) (omega arith)
    (All-cons (λ digit. digit < 16) (byte % 16) (halves bytes) (omega arith) others)

-- the digits at an even and at an odd place
pub halves-even : (bytes : List ℕ) (at : ℕ) → get_or (halves bytes) (2 * at) 0 ≡ get_or bytes at 0 / 16
halves-even [] at = refl
halves-even (byte ∷ bytes) zero = refl
halves-even (byte ∷ bytes) (suc at) = let two : 2 * suc at ≡ suc (suc (2 * at)) = omega arith in rw two (halves-even bytes at)

pub halves-odd : (bytes : List ℕ) (at : ℕ) → get_or (halves bytes) (2 * at + 1) 0 ≡ get_or bytes at 0 % 16
halves-odd [] at = refl
halves-odd (byte ∷ bytes) zero = refl
halves-odd (byte ∷ bytes) (suc at) =
    let two : 2 * suc at + 1 ≡ suc (suc (2 * at + 1)) = omega arith in rw two (halves-odd bytes at)

-- two digits more
two_more : (digits : List ℕ) (at : ℕ) → 2 * at + 1 < length digits
    → take (2 * (at + 1)) digits ≡ take (2 * at) digits ++ get_or digits (2 * at) 0 ∷ get_or digits (2 * at + 1) 0 ∷ []
two_more digits at inside =
    let next : 2 * (at + 1) ≡ 2 * at + 1 + 1 = omega arith in
    ap (λ n. take n digits) next ∙ take_more digits (2 * at + 1) 0 inside
    ∙ ap (λ (front : List ℕ). front ++ get_or digits (2 * at + 1) 0 ∷ []) (take_more digits (2 * at) 0 (omega arith))
    ∙ append_assoc (take (2 * at) digits) (get_or digits (2 * at) 0 ∷ []) (get_or digits (2 * at + 1) 0 ∷ [])

-- the next two places
two_set : (places : List ℕ) (at high low : ℕ) → 2 * at + 1 < length places
    → take (2 * (at + 1)) (set (set places (2 * at) high) (2 * at + 1) low) ≡ take (2 * at) places ++ high ∷ low ∷ []
two_set places at high low inside =
    let next : 2 * (at + 1) ≡ 2 * at + 1 + 1 = omega arith in
    let one = set places (2 * at) high in
    ap (λ n. take n (set one (2 * at + 1) low)) next
    ∙ take_more_set one (2 * at + 1) low (omega (arith, length-set places (2 * at) high, inside))
    ∙ ap (λ (front : List ℕ). front ++ low ∷ []) (take_more_set places (2 * at) high (omega (arith, inside)))
    ∙ append_assoc (take (2 * at) places) (high ∷ []) (low ∷ [])

-- the halves of the next byte are written after those of the bytes before it
pub halves-more : (places bytes : List ℕ) (at : ℕ) → at < length bytes → length places ≡ 2 * length bytes
    → take (2 * at) places ≡ take (2 * at) (halves bytes)
    → take (2 * (at + 1)) (set (set places (2 * at) (get_or bytes at 0 / 16)) (2 * at + 1) (get_or bytes at 0 % 16))
    ≡ take (2 * (at + 1)) (halves bytes)
halves-more places bytes at more len is =
    let high = halves-even bytes at in
    let low = halves-odd bytes at in
    let next = two_more (halves bytes) at (omega (arith, halves-length bytes, more)) in
    two_set places at (get_or bytes at 0 / 16) (get_or bytes at 0 % 16) (omega (arith, len, more))
    ∙ ap (λ (front : List ℕ). front ++ (get_or bytes at 0 / 16) ∷ (get_or bytes at 0 % 16) ∷ []) is
    ∙ sym (next ∙ (λ i. take (2 * at) (halves bytes) ++ high i ∷ low i ∷ []))

pub halves-all : (places bytes : List ℕ) (at : ℕ) → length bytes ≤ at → length places ≡ 2 * length bytes
    → take (2 * at) places ≡ take (2 * at) (halves bytes) → places ≡ halves bytes
halves-all places bytes at end len is =
    sym (take_all (2 * at) places (omega (arith, len, end))) ∙ is
    ∙ take_all (2 * at) (halves bytes) (omega (arith, halves-length bytes, end))

-- the first of many digits
pub joined_front : (n : ℕ) (digits others : List ℕ) → length digits ≡ 2 * n → take n (joined (digits ++ others)) ≡ joined digits
joined_front zero [] others len = refl
joined_front zero (x ∷ digits) others len = absurd (omega (arith, len))
joined_front (suc n) [] others len = absurd (omega (arith, len))
joined_front (suc n) (x ∷ []) others len = absurd (omega (arith, len))
joined_front (suc n) (x ∷ y ∷ digits) others len =
    ap (λ (bytes : List ℕ). (x * 16 + y) ∷ bytes) (joined_front n digits others (omega (arith, len)))

-- ---- two digits that are put together by one product

pub product_joins : (first second : ℕ) → first < 16 → second < 16 → (first + 256 * second) * 4097 % 65536 / 256 ≡ first * 16 + second
product_joins first second small also =
    let low : first * 4097 + 256 * second < 65536 = omega (arith, small, also) in
    let split : (first + 256 * second) * 4097 ≡ first * 4097 + 256 * second + 16 * second * 65536 = omega arith in
    let rest : (first + 256 * second) * 4097 % 65536 ≡ first * 4097 + 256 * second = omega (arith, low, split) in
    let high : (first * 4097 + 256 * second) / 256 ≡ first * 16 + second = omega (arith, small) in
    ap (λ n. n / 256) rest ∙ high

-- ---- digits that are put together one after another

joined_last : (n : ℕ) (digits : List ℕ) (high low : ℕ) → length digits ≡ 2 * n
    → joined (digits ++ high ∷ low ∷ []) ≡ joined digits ++ (high * 16 + low) ∷ []
joined_last zero [] high low len = refl
joined_last zero (x ∷ digits) high low len = absurd (omega arith)
joined_last (suc n) [] high low len = absurd (omega arith)
joined_last (suc n) (x ∷ []) high low len = absurd (omega arith)
joined_last (suc n) (x ∷ y ∷ digits) high low len =
    ap (λ (bytes : List ℕ). (x * 16 + y) ∷ bytes) (joined_last n digits high low (omega arith))

-- the halves of joined digits are these digits
pub halves-joined : (n : ℕ) (digits : List ℕ) → length digits ≡ 2 * n → All (λ d. d < 16) digits → halves (joined digits) ≡ digits
halves-joined zero [] len all = refl
halves-joined zero (x ∷ digits) len all = absurd (omega arith)
halves-joined (suc n) [] len all = absurd (omega arith)
halves-joined (suc n) (x ∷ []) len all = absurd (omega arith)
halves-joined (suc n) (x ∷ y ∷ digits) len all =
    let after = All-tail (λ d. d < 16) x (y ∷ digits) all in
    let first : x < 16 = All-head (λ d. d < 16) x (y ∷ digits) all in
    let second : y < 16 = All-head (λ d. d < 16) y digits after in
    let high : (x * 16 + y) / 16 ≡ x = omega arith in
    let low : (x * 16 + y) % 16 ≡ y = omega arith in
    let others = halves-joined n digits (omega arith) (All-tail (λ d. d < 16) y digits after) in
    λ i. high i ∷ low i ∷ others i

-- the next two digits are written after the pairs before them
pub joined-more : (bytes digits : List ℕ) (at : ℕ) → at < length bytes → length digits ≡ 2 * length bytes
    → take at bytes ≡ joined (take (2 * at) digits)
    → take (at + 1) (set bytes at (get_or digits (2 * at) 0 * 16 + get_or digits (2 * at + 1) 0))
    ≡ joined (take (2 * (at + 1)) digits)
joined-more bytes digits at more len is =
    let front = take (2 * at) digits in
    let both = get_or digits (2 * at) 0 * 16 + get_or digits (2 * at + 1) 0 in
    let even : length front ≡ 2 * at = length-take-le (2 * at) digits (omega (arith, len, more)) in
    let last : joined (take (2 * (at + 1)) digits) ≡ joined front ++ both ∷ [] =
    ap joined (two_more digits at (omega (arith, len, more))) ∙ joined_last at front _ _ even in
    take_more_set bytes at both more ∙ ap (λ (before : List ℕ). before ++ both ∷ []) is ∙ sym last

pub joined-all : (bytes digits : List ℕ) (at : ℕ) → length bytes ≤ at → length digits ≡ 2 * length bytes
    → take at bytes ≡ joined (take (2 * at) digits) → bytes ≡ joined digits
joined-all bytes digits at end len is =
    sym (take_all at bytes end) ∙ is ∙ ap joined (take_all (2 * at) digits (omega (arith, len, end)))

-- digits after an even number of them
joined_after : (n : ℕ) (digits others : List ℕ) → length digits ≡ 2 * n → joined (digits ++ others) ≡ joined digits ++ joined others
joined_after zero [] others len = refl
joined_after zero (x ∷ digits) others len = absurd (omega arith)
joined_after (suc n) [] others len = absurd (omega arith)
joined_after (suc n) (x ∷ []) others len = absurd (omega arith)
joined_after (suc n) (x ∷ y ∷ digits) others len =
    ap (λ (bytes : List ℕ). (x * 16 + y) ∷ bytes) (joined_after n digits others (omega arith))

-- eight digits, and zeros after them
pub joined-eight : (digits : List ℕ) → length digits ≡ 8 → joined digits ++ replicate 16 0 ≡ joined (padded 40 digits)
joined-eight digits eight =
    let left : 40 - length digits ≡ 32 = omega (arith, eight) in
    let zeros : joined (replicate 32 0) ≡ replicate 16 0 = refl in
    sym (ap (λ n. joined (digits ++ replicate n 0)) left ∙ joined_after 4 digits (replicate 32 0) (omega (arith, eight))
    ∙ ap (λ (rest : List ℕ). joined digits ++ rest) zeros)
