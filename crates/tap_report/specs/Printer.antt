-- What a printer keeps, and what printing a text does to it, which was `before` and is `after`, and to a sink, whose states are
-- `old` and `new`.
use Rattle.std.specs.Prelude.{◌≡◌, ℕ, List, [], ◌++◌}
use Rattle.tap_io.specs.Sink.{SinkState}
use Rattle.tap_report.specs.Written.{WritesText}
use Rattle.tap_report.specs.declared.written.Written.{Written}
use Rattle.tap_report.specs.declared.written.Written.TheVariants.{All}

-- whether all that doesn't wait was written, and the bytes that wait
pub record PrinterValue : Type 0 where
  pub so_far : Written
  pub waiting : List ℕ

-- how many bytes may wait
abbrev pub most_waiting : ℕ
most_waiting = 2048

-- before the first piece
abbrev pub new_printer : PrinterValue
new_printer = record { so_far = All; waiting = [] }

-- with a text more that waits
abbrev pub with_more : PrinterValue → List ℕ → PrinterValue
with_more p text = record { so_far = p.so_far; waiting = p.waiting ++ text }

-- a text more waits
pub record Waits (text : List ℕ) (before after : PrinterValue) : Type 0 where
  pub is : after ≡ with_more before text

-- when all that waits was written, or it was tried
abbrev pub emptied : Written → PrinterValue
emptied written = record { so_far = written; waiting = [] }

-- what waited before and then the text are written, but for the end that waits now
pub record Prints (old new : SinkState) (text : List ℕ) (before after : PrinterValue) : Type 0 where
  pub done : List ℕ
  pub written : WritesText old new done before.so_far after.so_far
  pub rest : before.waiting ++ text ≡ done ++ after.waiting
