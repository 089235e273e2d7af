-- the order of names, and names in that order
use Rattle.std.specs.Prelude.{◌≡◌, ℕ, if◌then◌else◌, List, [], ◌∷◌, AllPairs}
use Rattle.std.specs.Ordering.{nat_cmp, is_gt}
use Rattle.std.specs.Cmp.Lexicographic.{slice_cmp}
use Rattle.std.specs.declared.cmp.Ordering.{Ordering}
use Rattle.std.specs.declared.cmp.Ordering.TheVariants.{Less}

-- names are ordered digit by digit
abbrev pub name_cmp : List ℕ → List ℕ → Ordering
name_cmp = slice_cmp nat_cmp

-- one name stands before another
abbrev pub IsBelow : List ℕ → List ℕ → Type 0
IsBelow a b = name_cmp a b ≡ Less

-- each name stands before every later one
abbrev pub AreAscending : List (List ℕ) → Type 0
AreAscending names = AllPairs IsBelow names

-- one more name, before the first that isn't below it
unfoldable pub inserted : List ℕ → List (List ℕ) → List (List ℕ)
inserted name [] = name ∷ []
inserted name (first ∷ others) = if is_gt (name_cmp name first) then first ∷ inserted name others else name ∷ first ∷ others

-- these names in their order
unfoldable pub sorted : List (List ℕ) → List (List ℕ)
sorted [] = []
sorted (name ∷ names) = inserted name (sorted names)
