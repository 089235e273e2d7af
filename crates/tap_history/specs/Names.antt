-- Which names there ever were, up to a moment of a log.
use Rattle.std.specs.Prelude.{ℕ, List, [], ◌∷◌, ◌++◌, length, fold, if◌then◌else◌}
use Rattle.tap_name.specs.Names.{has_name}
use Rattle.tap_log.specs.declared.record.Record.{Record}
use Rattle.tap_history.specs.Core.{joins_of, members_of}

-- how many joins were accepted
abbrev pub join_count : List Record → ℕ
join_count log = length (joins_of log)

-- the names with one more, if it is new
abbrev pub with_name : List (List ℕ) → List ℕ → List (List ℕ)
with_name names name = (if has_name names name then names else names ++ name ∷ [])

-- the names that were ever present, each once
abbrev pub names_of : List Record → List (List ℕ)
names_of log = fold with_name [] (members_of log ++ joins_of log)

-- how many names were ever present
abbrev pub name_count : List Record → ℕ
name_count log = length (names_of log)
