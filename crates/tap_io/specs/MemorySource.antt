-- What a source in memory is, and what its next read does.
use Rattle.std.specs.Prelude.{◌==◌, ℕ, min, true, false, if◌then◌else◌, List, Some, length, drop}
use Rattle.tap_io.specs.Calls.{CallsValue, no_calls, is_next_to_fail, after_call}
use Rattle.tap_io.specs.Source.{SourceState}
use Rattle.tap_io.specs.declared.source.Got.{Got}
use Rattle.tap_io.specs.declared.source.Got.TheVariants.{Got as GotBytes, End, Failed}

-- the bytes that are left, the most that one read gives, and the calls
pub record MemorySourceValue : Type 0 where
  pub left : List ℕ
  pub piece : ℕ
  pub calls : CallsValue

-- what a source in memory tells
abbrev pub source_state : MemorySourceValue → SourceState
source_state s = record { left = Some s.left; faults = s.calls.faults }

-- before the first read
abbrev pub new_source : List ℕ → ℕ → List ℕ → MemorySourceValue
new_source bytes piece fails = record { left = bytes; piece = piece; calls = no_calls fails }

-- what the next read answers, into a buffer of this length
abbrev pub read_answer : MemorySourceValue → ℕ → Got
read_answer s room =
    if is_next_to_fail s.calls then Failed
    else if length s.left == 0 then End else GotBytes (min (min s.piece room) (length s.left))

-- what that answer leaves
abbrev pub after_read : MemorySourceValue → Got → MemorySourceValue
after_read s (GotBytes n) = record s { left = drop n s.left; calls = after_call s.calls false }
after_read s End = record s { calls = after_call s.calls false }
after_read s Failed = record s { calls = after_call s.calls true }
