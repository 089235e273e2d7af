-- The run of a node over the lines of a source: what it reads and writes, and why it ends.
--
-- Rule: docs/NETWORK.md, "The process of a node".
use Rattle.std.specs.Prelude.{◌≡◌, ◌≢◌, ◌<◌, ◌≤◌, ◌⊎◌, ℕ, ◌+◌, All, List, [], ◌∷◌, ◌++◌, length, take, fold, Option, None, Some}
use Rattle.std.specs.List.{flat_map}
use Rattle.std.specs.Io.KnownBytes.{Consumes, IsAtEnd}
use Rattle.tap_io.specs.Faults.{counted, greatest_count}
use Rattle.tap_io.specs.Sink.{SinkState}
use Rattle.tap_io.specs.Source.{SourceState}
use Rattle.tap_report.specs.declared.written.Written.{Written}
use Rattle.tap_report.specs.declared.written.Written.TheVariants.{All as Whole, Failed}
use Rattle.tap_report.specs.Written.{WritesText}
use Rattle.tap_rule.specs.Node.{joiner}
use Rattle.tap_node.specs.Node.{running}
use Rattle.tap_host_line.specs.declared.asked.Asked.{Asked}
use Rattle.tap_host.specs.declared.host.Going.{Going}
use Rattle.tap_host.specs.declared.host.Going.TheVariants.{On, Full}
use Rattle.tap_host.specs.declared.status.HostStatus.{HostStatus}
use Rattle.tap_host.specs.declared.status.HostStatus.TheVariants.{Done, ReadFault, Usage, TooLong, Cut, WriteFault, NoRoom, NoMemory}
use Rattle.tap_host.specs.Host.{HostSeen, Stepped, host_line, new_host}

-- ---- lines

-- the most bytes of a line, its end left out
abbrev pub most_line : ℕ
most_line = 32768

-- no byte ends a line, as byte 10 does
abbrev pub HasNoEnd : List ℕ → Type 0
HasNoEnd bytes = All (λ byte. byte ≢ 10) bytes

-- a line or a part of one, without its end
pub record IsLineText (bytes : List ℕ) : Type 0 where
  pub no_end : HasNoEnd bytes
  pub within : length bytes ≤ most_line

-- these bytes begin with more than a line has
pub record IsTooLong (bytes : List ℕ) : Type 0 where
  pub more : most_line < length bytes
  pub no_end : HasNoEnd (take (most_line + 1) bytes)

-- lines, each with its end
abbrev pub with_end : List ℕ → List ℕ
with_end line = line ++ 10 ∷ []

abbrev pub text_of_lines : List (List ℕ) → List ℕ
text_of_lines lines = flat_map with_end lines

-- ---- what lines bring

-- lines that were taken one after another: what they leave, how many they are, all that they bring, and whether a further one is taken
pub record Served : Type 0 where
  pub host : HostSeen
  pub count : ℕ
  pub text : List ℕ
  pub going : Going

-- no line was taken
abbrev pub none_served : HostSeen → Served
none_served host = record { host = host; count = 0; text = []; going = On }

-- one line more, of which this comes
abbrev pub with_step : Served → Stepped → Served
with_step so_far step =
    record { host = step.host; count = so_far.count + 1; text = so_far.text ++ step.text; going = step.going }

-- the next line, which isn't taken after one that left no room
abbrev pub next_served : Going → Served → List ℕ → Served
next_served On so_far line = with_step so_far (host_line so_far.host (so_far.count + 1) line)
next_served Full so_far line = so_far

-- what comes of lines, numbered from 1
abbrev pub host_lines : HostSeen → List (List ℕ) → Served
host_lines host lines = fold (λ so_far line. next_served so_far.going so_far line) (none_served host) lines

-- ---- why it ends

-- No further line comes, as this was read after the last one: nothing up to the end, or a part of a line, or more than a line has.
abbrev pub HasNoLine : HostStatus → List ℕ → SourceState → Type 0
HasNoLine Done rest source = (rest ≡ []) × IsAtEnd source.left
HasNoLine Cut rest source = (rest ≢ []) × IsLineText rest × IsAtEnd source.left
HasNoLine ReadFault rest source = IsLineText rest
HasNoLine TooLong rest source = IsTooLong rest
HasNoLine NoMemory rest source = Unit {0}
HasNoLine _ rest source = ⊥

-- The last line left no room, or there is no number for a further one; or a write failed; or no further line comes.
abbrev pub IsCause : HostStatus → Served → List ℕ → SourceState → Type 0
IsCause NoRoom served rest source = (served.going ≡ Full) ⊎ (served.count ≡ greatest_count)
IsCause WriteFault served rest source = Unit {0}
IsCause status served rest source = (served.going ≡ On) × HasNoLine status rest source

-- what came of writing
abbrev pub written_by : HostStatus → Written
written_by WriteFault = Failed
written_by _ = Whole

-- the faults of a source: one more if a read failed
abbrev pub faults_by : HostStatus → ℕ → ℕ
faults_by ReadFault faults = counted faults
faults_by _ faults = faults

-- ---- the run

-- A run that began with this host has ended. The states of the source were `old` and are `new`, those of the sink were `before` and are `after`.
-- These lines were read, each with its end, and then the rest. All that the lines bring was written, and nothing else; or a first part of it, if
-- a write failed.
pub record HasServed (host : HostSeen) (old new : SourceState) (before after : SinkState) (status : HostStatus) : Type 0 where
  pub lines : List (List ℕ)
  pub each : All IsLineText lines
  pub rest : List ℕ
  pub read : Consumes old.left new.left (text_of_lines lines ++ rest)
  pub faults : new.faults ≡ faults_by status old.faults
  pub written : WritesText before after (host_lines host lines).text Whole (written_by status)
  pub cause : IsCause status (host_lines host lines) rest new

-- nothing was read or written
pub record AreUntouched (old new : SourceState) (before after : SinkState) : Type 0 where
  pub source : new ≡ old
  pub sink : after ≡ before

-- By what the words ask for: the run of a node that starts to join. If they are none of the program, that is said, or memory was refused.
abbrev pub HasRunAsked : Option Asked → SourceState → SourceState → SinkState → SinkState → HostStatus → Type 0
HasRunAsked None old new before after status = ((status ≡ Usage) ⊎ (status ≡ NoMemory)) × AreUntouched old new before after
HasRunAsked (Some asked) old new before after status =
    HasServed (new_host (running (joiner asked.settings asked.name))) old new before after status
