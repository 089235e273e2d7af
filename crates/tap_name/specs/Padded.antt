-- so many places, of which the first are in use
use Rattle.std.specs.Prelude.{◌≡◌, ℕ, ◌-◌, ◌≤◌, List, ◌++◌, length, take, drop, replicate, All}
use Rattle.std.proofs.Common.{arith, take-append-drop, length-take-le}
use Rattle.std.proofs.Math.Seq.{drop-append_seam, take-append_seam}
use Rattle.std.proofs.lemmas.List.{length-append, length-replicate}

-- each place in use holds what may stand there, and the others hold 0
pub record IsPadded (size : ℕ) (MayStand : ℕ → Type 0) (places : List ℕ) (len : ℕ) : Type 0 where
  pub fits : len ≤ size
  pub all : length places ≡ size
  pub rest : drop len places ≡ replicate (size - len) 0
  pub used : All MayStand (take len places)

-- the places of a list
abbrev pub padded : ℕ → List ℕ → List ℕ
padded size xs = xs ++ replicate (size - length xs) 0

pub padded_take : (size : ℕ) (MayStand : ℕ → Type 0) (places : List ℕ) (len : ℕ) → IsPadded size MayStand places len
    → padded size (take len places) ≡ places
padded_take size MayStand places len h =
    rw (length-take-le len places (omega (arith, h.fits, h.all)), ← h.rest) (take-append-drop len places)

-- a list that may stand there, in its places
pub IsPadded-padded : (size : ℕ) (MayStand : ℕ → Type 0) (xs : List ℕ) → length xs ≤ size → All MayStand xs
    → IsPadded size MayStand (padded size xs) (length xs)
IsPadded-padded size MayStand xs few may =
    record {
      fits = few;
      all = let both = length-append xs (replicate (size - length xs) 0) in
          let zeros = length-replicate {A = ℕ} (size - length xs) 0 in omega arith;
      rest = drop-append_seam xs (replicate (size - length xs) 0);
      used = rw (take-append_seam xs (replicate (size - length xs) 0)) may;
    }
