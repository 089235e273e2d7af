-- What may be added to the log of a ledger.
use Rattle.std.specs.Prelude.{◌≡◌, ℕ, ◌≤◌, Bool, true, false, List, ◌++◌, All}
use Rattle.tap_log.specs.declared.record.Record.{Record}
use Rattle.tap_log.specs.declared.record.Record.TheVariants.{Begin, Carrier, Packet, Arrived, Ticked, Lost, RootsOf}
use Rattle.tap_log.specs.Counts.{sent_count}
use Rattle.tap_history.specs.GroupLaws.{NumbersOn}

-- A record that may stand after the beginning of a log that isn't carried: it is no beginning, and no carrier tells it alone.
unfoldable pub is_plain : Record → Bool
is_plain (Begin settings frames members) = false
is_plain Carrier = false
is_plain (Packet number frame ack) = false
is_plain (Arrived packet) = false
is_plain Ticked = false
is_plain (Lost packet) = false
is_plain (RootsOf object asker roots) = false
is_plain other = true

-- how many frames a ledger may have seen sent
abbrev pub most_ledger_frames : ℕ
most_ledger_frames = 4000000000

-- These records may be added to the log: they are plain, frames and tickets are numbered on, each frame that is taken was sent before
-- them, and no more frames are sent in all than may be.
pub record CanAdd (log more : List Record) : Type 0 where
  pub plain : All (λ item. is_plain item ≡ true) more
  pub numbers : NumbersOn log more
  pub within : sent_count (log ++ more) ≤ most_ledger_frames
