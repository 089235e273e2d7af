-- What reading up to the next line does, and what taking it does.
use Rattle.std.specs.Prelude.{◌≡◌, ◌<◌, ◌≤◌, ℕ, List, [], ◌∷◌, ◌++◌, length, Option, None, Some, Result, Ok, Err}
use Rattle.std.specs.Io.KnownBytes.{Consumes}
use Rattle.memchr.specs.Find.{IsFirstByte, is_byte}
use Rattle.tap_io.specs.declared.source.Got.{Got}
use Rattle.tap_io.specs.declared.source.Got.TheVariants.{Got as GotBytes, End, Failed as FailedToRead}
use Rattle.tap_io.specs.Sink.{SinkState}
use Rattle.tap_io.specs.Source.{Ends, FailsToRead, SourceState}
use Rattle.tap_report.specs.declared.written.Written.TheVariants.{All as Whole, Failed}
use Rattle.tap_report.specs.Written.{WritesText}
use Rattle.tap_host.specs.declared.host.Going.TheVariants.{On, Full}
use Rattle.tap_host.specs.declared.memory.NoMemory.{NoMemory as Refused}
use Rattle.tap_host.specs.declared.status.HostStatus.{HostStatus}
use Rattle.tap_host.specs.declared.status.HostStatus.TheVariants.{Cut, Done, NoMemory, NoRoom, TooLong, WriteFault}
use Rattle.tap_host.specs.Host.{HostSeen, Stepped}
use Rattle.tap_host.specs.Run.{HasNoLine, IsLineText, IsTooLong, faults_by, most_line}

-- ---- reading

-- more was read and added to the bytes
pub record ReadsMore (had has : List ℕ) (old new : SourceState) : Type 0 where
  pub more : List ℕ
  pub read : Consumes old.left new.left more
  pub bytes : has ≡ had ++ more
  pub faults : new.faults ≡ old.faults

-- something was read, and is lost
pub record LosesMore (old new : SourceState) : Type 0 where
  pub more : List ℕ
  pub read : Consumes old.left new.left more
  pub faults : new.faults ≡ old.faults

-- a read, by its answer
abbrev pub AddsRead : List ℕ → List ℕ → SourceState → SourceState → Result Got Refused → Type 0
AddsRead had has old new (Ok (GotBytes n)) = ReadsMore had has old new × (length had < length has)
AddsRead had has old new (Ok End) = (has ≡ had) × Ends old new
AddsRead had has old new (Ok FailedToRead) = (has ≡ had) × FailsToRead old new
AddsRead had has old new (Err refused) = LosesMore old new

-- how it ends if nothing comes after these bytes
abbrev pub status_at_end : List ℕ → HostStatus
status_at_end [] = Done
status_at_end (byte ∷ bytes) = Cut

-- the first line among these bytes has this length
pub record IsFirstLine (bytes : List ℕ) (len : ℕ) : Type 0 where
  pub end : IsFirstByte (is_byte 10) bytes (Some len)
  pub within : len ≤ most_line

-- what a look at these bytes finds: a line, a part of one, or too many bytes for one
abbrev pub LooksAs : List ℕ → Result (Option ℕ) HostStatus → Type 0
LooksAs bytes (Ok (Some len)) = IsFirstLine bytes len
LooksAs bytes (Ok None) = IsLineText bytes
LooksAs bytes (Err TooLong) = IsTooLong bytes
LooksAs bytes (Err _) = ⊥

-- By what was found in the bytes after reading: the next line, or why there is none.
abbrev pub FoundAs : List ℕ → List ℕ → SourceState → SourceState → Result ℕ HostStatus → Type 0
FoundAs bytes has old new (Ok len) = (has ≡ bytes) × IsFirstLine bytes len × (new.faults ≡ old.faults)
FoundAs bytes has old new (Err status) = HasNoLine status bytes new × (new.faults ≡ faults_by status old.faults)

-- as much was read as the next line wants, or until no further line comes
pub record FindsLine (had has : List ℕ) (old new : SourceState) (found : Result ℕ HostStatus) : Type 0 where
  pub more : List ℕ
  pub read : Consumes old.left new.left more
  pub answer : FoundAs (had ++ more) has old new found

-- ---- taking

-- What comes of the step of a line: its text is written and the run goes on from what it leaves, or the run ends.
abbrev pub TakesLine : Stepped → HostSeen → SinkState → SinkState → Option HostStatus → Type 0
TakesLine step host before after None = (step.going ≡ On) × (host ≡ step.host) × WritesText before after step.text Whole Whole
TakesLine step host before after (Some NoRoom) = (step.going ≡ Full) × WritesText before after step.text Whole Whole
TakesLine step host before after (Some WriteFault) = WritesText before after step.text Whole Failed
TakesLine step host before after (Some NoMemory) = after ≡ before
TakesLine step host before after (Some _) = ⊥
