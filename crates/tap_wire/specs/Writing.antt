-- bytes written from a place on, over as many that are there
use Rattle.std.specs.Prelude.{◌≡◌, ℕ, ◌+◌, ◌≤◌, List, ◌++◌, length, take}

-- so many bytes fit from a place on
abbrev pub HasRoom : List ℕ → ℕ → List ℕ → Type 0
HasRoom out at bytes = at + length bytes ≤ length out

-- these bytes were written from a place on, up to the next place, and those before them stayed
pub record Puts (old : List ℕ) (at : ℕ) (bytes new : List ℕ) (next : ℕ) : Type 0 where
  pub items : take next new ≡ take at old ++ bytes
  pub past : next ≡ at + length bytes
  pub len : length new ≡ length old
