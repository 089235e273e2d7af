-- What a sink in memory is, and what its next write does.
use Rattle.std.specs.Prelude.{◌==◌, ◌||◌, ◌++◌, ℕ, ◌-◌, min, true, false, if◌then◌else◌, List, [], Some, length, take}
use Rattle.tap_io.specs.Calls.{CallsValue, no_calls, is_next_to_fail, after_call}
use Rattle.tap_io.specs.Sink.{SinkState}
use Rattle.tap_io.specs.declared.sink.Took.{Took}
use Rattle.tap_io.specs.declared.sink.Took.TheVariants.{Took as TookBytes, Failed}

-- the bytes that are held, the most that one write takes, the most bytes that can be held, and the calls
pub record MemorySinkValue : Type 0 where
  pub held : List ℕ
  pub piece : ℕ
  pub room : ℕ
  pub calls : CallsValue

-- what a sink in memory tells
abbrev pub sink_state : MemorySinkValue → SinkState
sink_state s = record { held = Some s.held; faults = s.calls.faults; behind = [] }

-- before the first write
abbrev pub new_sink : ℕ → ℕ → List ℕ → MemorySinkValue
new_sink piece room fails = record { held = []; piece = piece; room = room; calls = no_calls fails }

-- what the next write answers, of a text of this length
abbrev pub write_answer : MemorySinkValue → ℕ → Took
write_answer s len =
    if is_next_to_fail s.calls || (length s.held == s.room) then Failed
    else TookBytes (min (min s.piece len) (s.room - length s.held))

-- what that answer leaves
abbrev pub after_write : MemorySinkValue → List ℕ → Took → MemorySinkValue
after_write s bytes (TookBytes n) = record s { held = s.held ++ take n bytes; calls = after_call s.calls false }
after_write s bytes Failed = record s { calls = after_call s.calls true }
