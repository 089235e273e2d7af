-- The place of the last one of the frames that are outstanding.
use Rattle.std.specs.Prelude.{ℕ, ◌-◌, List, [], ◌∷◌, length, Option, None, Some}

-- the last place of a list, if it has one
abbrev pub last_place : List ℕ → Option ℕ
last_place [] = None
last_place (number ∷ numbers) = Some (length (number ∷ numbers) - 1)
