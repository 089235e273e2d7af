-- That bytes have one answer, and that a shape has a text.
use Rattle.std.specs.Prelude.{◌≡◌, ℕ, ◌+◌, ◌≤◌, List}
use Rattle.tap_log.specs.declared.record.Record.{Record}
use Rattle.tap_report.specs.Text.{IsPrintableLog}
use Rattle.tap_shape.specs.Shape.{IsShape}
use Rattle.tap_shape.specs.Text.{IsNotLog, IsTextOf, line_count}

-- Bytes are the text of at most one log, or show that they are none at one line at most, which is one of them or the next after them; and not
-- both.
pub record TextsAreExact : Type 0 where
  pub one : (bytes : List ℕ) (log other : List Record) → IsTextOf bytes log → IsTextOf bytes other → log ≡ other
  pub first : (bytes : List ℕ) (k other : ℕ) → IsNotLog bytes k → IsNotLog bytes other → k ≡ other
  pub most : (bytes : List ℕ) (k : ℕ) → IsNotLog bytes k → k ≤ line_count bytes + 1
  pub apart : (bytes : List ℕ) (log : List Record) (k : ℕ) → IsTextOf bytes log → IsNotLog bytes k → ⊥

-- a shape can be printed
abbrev pub ShapesCanBePrinted : Type 0
ShapesCanBePrinted = (log : List Record) → IsShape log → IsPrintableLog log
