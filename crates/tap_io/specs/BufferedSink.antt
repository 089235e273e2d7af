-- What a buffered sink tells, and what a flush of it does.
use Rattle.std.specs.Prelude.{◌≡◌, ◌≤◌, ◌<◌, ℕ, List, [], ◌∷◌, ◌++◌, length, take}
use Rattle.std.specs.Io.KnownBytes.{Appends, append_known}
use Rattle.tap_io.specs.Faults.{HasRisen}
use Rattle.tap_io.specs.Sink.{IsAfterWrites, SinkState}
use Rattle.tap_io.specs.declared.buffered_sink.BufferedSink.{BufferedSink}
use Rattle.tap_io.specs.declared.buffered_sink.Flushed.{Flushed}
use Rattle.tap_io.specs.declared.buffered_sink.Flushed.TheVariants.{All, Failed}

-- what a sink tells that is over another one, of this state and borrowed by this name: what that one holds, and after that
-- the bytes that wait
abbrev pub state_over : SinkState → ℕ → List ℕ → SinkState
state_over inner name waiting =
    record {
      held = append_known inner.held waiting;
      faults = inner.faults;
      behind = record { name = name; held = inner.held } ∷ inner.behind;
    }

-- what a buffered sink tells
abbrev pub buffered_state : {K : Type 0} → (K → SinkState) → BufferedSink K → SinkState
buffered_state state b = state_over (state b.inner.now) b.inner.ghost_name b.waiting.items

-- Of a text, some first bytes were appended: all of them and no fault was counted, or fewer and one was.
pub record WritesFirst (old new : SinkState) (text : List ℕ) (count : ℕ) : Type 0 where
  pub within : count ≤ length text
  pub appends : Appends old.held new.held (take count text)
  pub follows : IsAfterWrites old new
  pub whole : count ≡ length text → new.faults ≡ old.faults
  pub short : count < length text → HasRisen old.faults new.faults

-- the sink (`old` and `new`) took all bytes that waited (`was`), or it failed, after a first part, and the rest waits (`is`)
abbrev pub FlushesAs : SinkState → SinkState → List ℕ → List ℕ → Flushed → Type 0
FlushesAs old new was is All = (is ≡ []) × Appends old.held new.held was × (new.faults ≡ old.faults)
FlushesAs old new was is Failed =
    (front : List ℕ) × Appends old.held new.held front × (front ++ is ≡ was) × HasRisen old.faults new.faults

-- the sink goes on, and the answer says what else came about
pub record Flushes (old new : SinkState) (was is : List ℕ) (flushed : Flushed) : Type 0 where
  pub follows : IsAfterWrites old new
  pub answer : FlushesAs old new was is flushed
