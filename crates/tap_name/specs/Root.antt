-- The root of a set of names, narrowed digit by digit. A set of names is a list of them.
use Rattle.std.specs.Prelude.{◌==◌, ℕ, ◌+◌, Bool, List, [], ◌∷◌, slice_index, Option, filter}
use Rattle.std.specs.List.{list_any}
use Rattle.tap_name.specs.Cyclic.{first_cyclic}
pub use Rattle.tap_name.specs.Names.{Among, AreNames, first_of}

-- some name has this digit at this level
abbrev pub has_digit : List (List ℕ) → ℕ → ℕ → Bool
has_digit names level digit = list_any (λ name. slice_index name level == digit) names

-- the names that are kept at a level: those with the first digit there, cyclically from the wanted one, that any has
abbrev pub names_kept : ℕ → ℕ → ℕ → List (List ℕ) → List (List ℕ)
names_kept base level wanted names =
    filter (λ name. slice_index name level == first_cyclic base (has_digit names level) wanted) names

-- the names that are left after the levels of these wanted digits, from a level on
abbrev pub narrowed : ℕ → ℕ → List ℕ → List (List ℕ) → List (List ℕ)
narrowed base level [] names = names
narrowed base level (wanted ∷ more) names = narrowed base (level + 1) more (names_kept base level wanted names)

-- the root of an object over a set of names: the one that is left after all levels
abbrev pub root : ℕ → List (List ℕ) → List ℕ → Option (List ℕ)
root base names object = first_of (narrowed base 0 object names)
