-- What an adapter over a reader or a writer is.
use Rattle.std.specs.Prelude.{ℕ, List, [], Option}
use Rattle.tap_io.specs.Sink.{SinkState}
use Rattle.tap_io.specs.Source.{SourceState}

-- the reader or the writer, and how many faults there were
pub record Adapter (T : Type 0) : Type 0 where
  pub inner : T
  pub faults : ℕ

-- an adapter over a reader as a source, which has left what the reader has
abbrev pub source_state : {T : Type 0} → (T → Option (List ℕ)) → Adapter T → SourceState
source_state remaining a = record { left = remaining a.inner; faults = a.faults }

-- an adapter over a writer as a sink, which holds what the writer does
abbrev pub sink_state : {T : Type 0} → (T → Option (List ℕ)) → Adapter T → SinkState
sink_state contents a = record { held = contents a.inner; faults = a.faults; behind = [] }
