-- what is said of lists of names; a set of names is a list of them
use Rattle.std.specs.Prelude.{◌≡◌, ◌≢◌, ℕ, ◌<◌, Bool, true, not, ◌&&◌, List, [], ◌∷◌, length, filter, nat_eq, Option, None, Some, ◌⊎◌}
use Rattle.std.specs.List.{list_any, slice_index_or}
use Rattle.std.specs.Cmp.Lexicographic.{pointwise}
use Rattle.tap_name.specs.Settings.{SettingsValue}
use Rattle.tap_name.specs.Name.{IsName}

-- the name is among these
abbrev pub Among : List ℕ → List (List ℕ) → Type 0
Among x [] = ⊥
Among x (y ∷ ys) = (x ≡ y) ⊎ Among x ys

-- whether the name is among these
abbrev pub has_name : List (List ℕ) → List ℕ → Bool
has_name names name = list_any (λ other. pointwise nat_eq other name) names

-- each of these is a name of the settings
abbrev pub AreNames : SettingsValue → List (List ℕ) → Type 0
AreNames p names = (x : List ℕ) → Among x names → IsName p x

-- no two of these are one
abbrev pub AreDistinct : List (List ℕ) → Type 0
AreDistinct names =
    (i j : ℕ) (d : List ℕ) → i < j → j < length names → slice_index_or names i d ≢ slice_index_or names j d

-- whether no two of these are one
abbrev pub are_distinct : List (List ℕ) → Bool
are_distinct [] = true
are_distinct (name ∷ others) = not (has_name others name) && are_distinct others

-- the first name, where there is one
abbrev pub first_of : List (List ℕ) → Option (List ℕ)
first_of [] = None
first_of (x ∷ xs) = Some x

-- the first names without the second ones
abbrev pub names_without : List (List ℕ) → List (List ℕ) → List (List ℕ)
names_without names others = filter (λ name. not (has_name others name)) names
