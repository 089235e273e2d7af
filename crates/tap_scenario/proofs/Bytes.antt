-- bytes that are known one by one
-- Cited above: same_bytes
use Rattle.std.proofs.Common.{◌≡◌, ℕ, suc, List, [], ◌∷◌, length, get_or}

-- from this place on, these stand in a list
abbrev pub Stand : List ℕ → ℕ → List ℕ → Type 0
Stand xs at [] = Unit {0}
Stand xs at (y ∷ ys) = (get_or xs at 0 ≡ y) × Stand xs (suc at) ys

stand-tail : (x : ℕ) (xs : List ℕ) (at : ℕ) (ys : List ℕ) → Stand (x ∷ xs) (suc at) ys → Stand xs at ys
stand-tail x xs at [] there = tt
stand-tail x xs at (y ∷ ys) there = (there.0, stand-tail x xs (suc at) ys there.1)

-- if as many stand there from the start, they are the list
pub same_bytes : (xs ys : List ℕ) → length xs ≡ length ys → Stand xs 0 ys → xs ≡ ys
same_bytes [] [] len stand = cc
same_bytes [] (y ∷ ys) len stand = absurd (cc)
same_bytes (x ∷ xs) [] len stand = absurd (cc)
same_bytes (x ∷ xs) (y ∷ ys) len stand =
    let first : x ≡ y = stand.0 in let others = same_bytes xs ys (cc) (stand-tail x xs 0 ys stand.1) in cc
