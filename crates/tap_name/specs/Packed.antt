-- Digits two by two, as a name is kept: the first of each two is the high half of a byte, the second the low half.
use Rattle.std.specs.Prelude.{ℕ, ◌+◌, ◌*◌, ◌^◌, ◌/◌, ◌%◌, zero, suc, List, [], ◌∷◌, get_or}
use Rattle.std.proofs.Common.{◌≡◌, refl, arith}
use Rattle.tap_name.specs.Padded.{padded}

-- the high half of each byte, and then its low half
abbrev pub halves : List ℕ → List ℕ
halves [] = []
halves (byte ∷ bytes) = byte / 16 ∷ byte % 16 ∷ halves bytes

-- both halves of a byte as one number: the high one, and 256 times the low one
abbrev pub both_halves : ℕ → ℕ
both_halves byte = byte / 16 + 256 * (byte % 16)

-- two digits a byte
abbrev pub joined : List ℕ → List ℕ
joined [] = []
joined (high ∷ []) = (high * 16) ∷ []
joined (high ∷ low ∷ digits) = (high * 16 + low) ∷ joined digits

-- the bytes that a name is kept in: its digits two a byte, and zeros after them, twenty in all
unfoldable pub packed : List ℕ → List ℕ
packed digits = joined (padded 40 digits)

-- so many digits from a place on, as one number in which the first is worth the most; digits that aren't there count as 0
unfoldable pub head_from : ℕ → ℕ → List ℕ → ℕ
head_from zero place digits = 0
head_from (suc n) place digits = get_or digits place 0 * 16 ^ n + head_from n (suc place) digits

-- the bytes of which these are the halves
pub joined-halves : (bytes : List ℕ) → joined (halves bytes) ≡ bytes
joined-halves [] = refl
joined-halves (byte ∷ bytes) =
    let first : byte / 16 * 16 + byte % 16 ≡ byte = omega arith in
    let others = joined-halves bytes in
    λ i. first i ∷ others i
