-- Names, and what is numbered or kept by name.
use Rattle.std.specs.Prelude.{ℕ, nat_eq, Bool, ◌&&◌, List, unwrap_or}
use Rattle.std.specs.Cmp.Lexicographic.{pointwise}
use Rattle.std.specs.Map.{lookup}

-- two names are the same
abbrev pub is_name : List ℕ → List ℕ → Bool
is_name name other = pointwise nat_eq name other

-- two names are the same, and two numbers
abbrev pub is_same : List ℕ → ℕ → List ℕ → ℕ → Bool
is_same name number other_name other_number = is_name name other_name && nat_eq number other_number

-- the same of two pairs
abbrev pub is_same_way : List ℕ × ℕ → List ℕ × ℕ → Bool
is_same_way way other = is_same way.0 way.1 other.0 other.1

-- the number that is kept for a name, or 0
abbrev pub number_of : List (List ℕ × ℕ) → List ℕ → ℕ
number_of numbers name = unwrap_or (lookup (is_name name) numbers) 0
