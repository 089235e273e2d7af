-- Which lines of a text open a log and begin its steps.
use Rattle.std.specs.Prelude.{◌==◌, ◌||◌, Bool, ℕ, List, [], ◌∷◌, length, take, bytes_eq, codes, filter, map}
use Rattle.std.specs.List.{before_first, concat, slice_split}
use Rattle.tap_report.specs.Shapes.{line}
use Rattle.tap_shape.specs.Text.{line_count}

-- The lines of some bytes, each without its line feed: of the parts that line feeds part, as many as there are line feeds. So a rest without a
-- line feed is no line.
abbrev pub lines_in : List ℕ → List (List ℕ)
lines_in bytes = take (line_count bytes) (slice_split (λ byte. byte == 10) bytes)

-- whether a text begins with a word
abbrev pub begins_with : List ℕ → List ℕ → Bool
begins_with text word = bytes_eq (take (length word) text) word

-- whether a line is of the opening: a member, that packets carry the frames, or the beginning of a step
unfoldable pub opens : List ℕ → Bool
opens text = begins_with text (codes "step ") || begins_with text (codes "member ") || begins_with text (codes "carrier")

-- whether a line says that all steps were run
unfoldable pub ends : List ℕ → Bool
ends text = begins_with text (codes "done ")

-- of the lines before the first that says that all steps were run, those that are of the opening
abbrev pub opening_texts : List (List ℕ) → List (List ℕ)
opening_texts texts = filter opens (before_first ends texts)

-- the same of the lines of some bytes, each with its line feed
abbrev pub later_opening : List ℕ → List ℕ
later_opening bytes = concat (map line (opening_texts (lines_in bytes)))

-- the first line, and those of the later ones that are of the opening
abbrev pub opening_lines : List (List ℕ) → List ℕ
opening_lines [] = []
opening_lines (first ∷ later) = concat (map line (first ∷ opening_texts later))

-- The opening of a text: its first line, and those of the later ones up to the first `done` that are a member, say that packets carry the frames,
-- or begin a step. Each has its line feed.
abbrev pub opening : List ℕ → List ℕ
opening bytes = opening_lines (lines_in bytes)
