-- the lines of casts
use Rattle.std.specs.Prelude.{ℕ, List, ◌++◌, codes}
use Rattle.tap_report.specs.Shapes.{name_after, number_after}

-- the line of a cast that begins at a node
abbrev pub cast_line : ℕ → List ℕ → ℕ → List ℕ → List ℕ
cast_line cast word level name =
    number_after (codes "cast ") cast ++ codes " " ++ word ++ number_after (codes " level ") level ++ name_after (codes " from ") name

-- the line of a node that it reaches
abbrev pub reached_line : ℕ → List ℕ → List ℕ
reached_line cast name = number_after (codes "reached ") cast ++ name_after (codes " ") name
