-- numbers as their bytes
use Rattle.std.proofs.Common.{◌≡◌, ◌<◌, ◌^◌, ◌+◌, ◌*◌, ◌/◌, ◌%◌, ℕ, zero, suc, List, [], ◌∷◌, length, All, arith, refl, ap₂, subst, ◌∙◌, slice_index, inl, inr}
use Rattle.std.proofs.lemmas.Bool.{cases_lt}
use Rattle.std.proofs.lemmas.List.{get_or_past}
use Rattle.std.proofs.lemmas.Nat.{div-mul-add}
use Rattle.std.proofs.Math.Nat.{mod-add-div', mod-lt}
use Rattle.std.specs.Int.{byte_at, bytes_high_first}
use Rattle.byteorder.specs.Endian.{big_bytes, big_number}
use Rattle.byteorder.specs.Numbers.{big_from-lt, big_from-cons}

-- the highest byte of a number is its quotient
top : (n x y : ℕ) → x < 256 → y < 256 ^ n → byte_at n (x * 256 ^ n + y) ≡ x
top zero x y small low = omega arith
top (suc n) x y small low = rw (div-mul-add x (256 ^ suc n) y low) (omega arith)

above : (w a y q r : ℕ) → r < w → r + q * w ≡ y → ((a * 256) * w + y) / w ≡ a * 256 + q
above w a y q r lt e =
    let same : (a * 256) * w + y ≡ (a * 256 + q) * w + r = grind arith in
    rw same (div-mul-add (a * 256 + q) w r lt)

positive : (n : ℕ) → 0 < 256 ^ n
positive zero = omega arith
positive (suc n) = omega (arith, positive n)

-- a byte does not see what stands above it
one_byte : (n a y : ℕ) → byte_at n ((a * 256) * 256 ^ n + y) ≡ byte_at n y
one_byte zero a y = omega arith
one_byte (suc n) a y =
    rw (above (256 ^ suc n) a y (y / 256 ^ suc n) (y % 256 ^ suc n) (mod-lt y (positive (suc n))) (mod-add-div' y (256 ^ suc n)))
    (omega arith)

shifted : (a p q y : ℕ) → q ≡ 256 * p → a * q + y ≡ (a * 256) * p + y
shifted a p q y e = rw e (grind arith)

low_bytes : (n a y : ℕ) → bytes_high_first n (a * 256 ^ n + y) ≡ bytes_high_first n y
low_bytes zero a y = refl
low_bytes (suc n) a y =
    let same : a * 256 ^ suc n + y ≡ (a * 256) * 256 ^ n + y = shifted a (256 ^ n) (256 ^ suc n) y (omega arith) in
    rw same (ap₂ (λ b bs. b ∷ bs) (one_byte n a y) (low_bytes n (a * 256) y))

back : (bytes : List ℕ) → ((i : ℕ) → slice_index bytes i < 256) → big_bytes (length bytes) (big_number (length bytes) bytes) ≡ bytes
back [] small = refl
back (x ∷ xs) small =
    let rest : (i : ℕ) → slice_index xs i < 256 = λ i. small (suc i) in
    rw (big_from-cons 0 (length xs) x xs)
    (ap₂ (λ b bs. b ∷ bs) (top (length xs) x (big_number (length xs) xs) (small 0) (big_from-lt 0 (length xs) xs rest))
    (low_bytes (length xs) x (big_number (length xs) xs) ∙ back xs rest))

-- bytes are below 256 at each place, past the end too
pub are_small : (bytes : List ℕ) → All (λ b. b < 256) bytes → (i : ℕ) → slice_index bytes i < 256
are_small bytes all i =
    elim (cases_lt i (length bytes)) [
      | inl within ↦ all i 0 within
      | inr past ↦ let none = get_or_past bytes i 0 past in omega arith
    ]

-- bytes are those of the number that they are
pub writes_back : (width : ℕ) (bytes : List ℕ) → length bytes ≡ width → All (λ b. b < 256) bytes
    → big_bytes width (big_number width bytes) ≡ bytes
writes_back width bytes len all = subst (λ w. big_bytes w (big_number w bytes) ≡ bytes) len (back bytes (are_small bytes all))
