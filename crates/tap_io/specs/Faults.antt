-- Counts of faults, which never fall and stand still at the greatest u64, and what a call that fails leaves.
use Rattle.std.specs.Prelude.{◌≡◌, ◌≤◌, ℕ, ◌+◌, ◌-◌, ◌^◌, min, List, Option}
use Rattle.std.specs.Io.KnownBytes.{Keeps}

-- the greatest u64
abbrev pub greatest_count : ℕ
greatest_count = 2 ^ 64 - 1

-- one more, or the same if the count stands still
abbrev pub counted : ℕ → ℕ
counted n = min (n + 1) greatest_count

-- A count has risen. One that stands still counts as risen.
abbrev pub HasRisen : ℕ → ℕ → Type 0
HasRisen before now = now ≤ before → now ≡ greatest_count

-- The bytes are as they were, if they are told, and a fault was counted.
pub record Fails (old new : Option (List ℕ)) (before now : ℕ) : Type 0 where
  pub kept : Keeps old new
  pub risen : HasRisen before now
