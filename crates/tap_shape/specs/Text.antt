-- Which bytes are the text of a log, and which line is the first that no log's text has.
use Rattle.std.specs.Prelude.{◌≡◌, ◌⊎◌, ℕ, zero, suc, ◌+◌, ◌-◌, ◌≤◌, ◌==◌, if◌then◌else◌, List, [], ◌∷◌, ◌++◌, codes, count_by}
use Rattle.tap_log.specs.declared.record.Record.{Record}
use Rattle.tap_report.specs.Shapes.{line}
use Rattle.tap_report.specs.Text.{text_of_log}
use Rattle.tap_report.specs.declared.mode.Mode.TheVariants.{Long}
use Rattle.tap_shape.specs.Shape.{IsShape}

-- ---- which text a log has

-- the line that the program writes after the log of a run that was refused memory
abbrev pub last_line : List ℕ
last_line = line (codes "tapestry: no memory")

-- the bytes are the long text of the log, or that and the last line
pub record IsTextOf (bytes : List ℕ) (log : List Record) : Type 0 where
  pub shape : IsShape log
  pub text : (bytes ≡ text_of_log Long log) ⊎ (bytes ≡ text_of_log Long log ++ last_line)

-- ---- which bytes are no log's text

-- the bytes begin a log's text
pub record BeginsText (front : List ℕ) : Type 0 where
  pub rest : List ℕ
  pub log : List Record
  pub is : IsTextOf (front ++ rest) log

-- how many lines there are, each with its line feed
abbrev pub line_count : List ℕ → ℕ
line_count bytes = count_by (λ byte. byte == 10) bytes

-- the first so many lines, each with its line feed, or all bytes if there are fewer
abbrev pub first_lines : ℕ → List ℕ → List ℕ
first_lines count [] = []
first_lines zero (byte ∷ bytes) = []
first_lines (suc count) (byte ∷ bytes) = byte ∷ first_lines (if byte == 10 then count else suc count) bytes

-- The bytes are no log's text, and line k, counted from 1, is where that shows: the lines before it begin a log's text; and these with it begin
-- none, or there is no such line, but one fewer.
pub record IsNotLog (bytes : List ℕ) (k : ℕ) : Type 0 where
  pub none : (log : List Record) → IsTextOf bytes log → ⊥
  pub from : 1 ≤ k
  pub before : BeginsText (first_lines (k - 1) bytes)
  pub first : (BeginsText (first_lines k bytes) → ⊥) ⊎ (k ≡ line_count bytes + 1)
