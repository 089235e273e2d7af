-- Why the top call ends as it does, and what it has then written. The states of the source, and those of the sink, were
-- `old` and are `new`. What is printed is the log of the world that is left, which is empty if none is.
use Rattle.std.specs.Prelude.{◌≡◌, ◌⊎◌, ◌++◌, ℕ, IsSome, List, [], Option, None, Some}
use Rattle.tap_io.specs.Sink.{SinkState}
use Rattle.tap_io.specs.Source.{SourceState}
use Rattle.tap_scenario.specs.Scenario.{IsScript, ScenarioValue}
use Rattle.tap_log.specs.declared.record.Record.{Record}
use Rattle.tap_engine.specs.World.{WorldValue, whole_log}
use Rattle.tap_replay.specs.Runs.{LeavesWorld as RunLeaves}
use Rattle.tap_replay.specs.declared.end.End.TheVariants as end
use Rattle.tap_report.specs.Text.{text_of_log}
use Rattle.tap_report.specs.Written.{AppendsAll, FirstFails}
use Rattle.tap_report.specs.declared.mode.Mode.{Mode}
use Rattle.tap_report.specs.declared.mode.Mode.TheVariants.{Long}
use Rattle.tap_report.specs.declared.written.Written.{Written}
use Rattle.tap_report.specs.declared.written.Written.TheVariants.{All, Failed}
use Rattle.tap_words.specs.declared.asked.Asked.{Asked}
use Rattle.tap_top.specs.declared.status.Status.{Status}
use Rattle.tap_top.specs.declared.status.Status.TheVariants.{Done, Usage, WriteFault, Spent, NoMemory}
use Rattle.tap_top.specs.FaultLine.{fault_line}
use Rattle.tap_top.specs.Wanted.{IsNotHad, IsWanted, mode_of}

-- ---- the world

-- the whole log of a world, if there is one
abbrev pub log_of : Option WorldValue → List Record
log_of None = []
log_of (Some world) = whole_log world

-- whether a world is left: if a run has ended, and else none; want of memory may come with one or without
abbrev pub LeavesWorld : Status → Option WorldValue → Type 0
LeavesWorld Done world = IsSome world
LeavesWorld Spent world = IsSome world
LeavesWorld NoMemory world = Unit {0}
LeavesWorld other world = world ≡ None

-- ---- the cause

-- the run of a scenario ends with this status, writing aside, and leaves this world
abbrev pub HasRunAs : ScenarioValue → Status → WorldValue → Type 0
HasRunAs script Done world = RunLeaves script end.Done world
HasRunAs script Spent world = RunLeaves script end.Spent world
HasRunAs script NoMemory world = RunLeaves script end.NoMemory world
HasRunAs script other world = ⊥

-- the same; no world is left only if memory was refused before the first record
abbrev pub HasRunOf : ScenarioValue → Status → Option WorldValue → Type 0
HasRunOf script status None = status ≡ NoMemory
HasRunOf script status (Some world) = HasRunAs script status world

-- the scenario that the words ask for was had, and its run has ended with this status and leaves this world
pub record HasRun (asked : Asked) (old new : SourceState) (status : Status) (world : WorldValue) : Type 0 where
  pub script : ScenarioValue
  pub valid : IsScript script
  pub wanted : IsWanted asked old new script
  pub ended : HasRunAs script status world

-- Why a call whose words ask for this ends with a status, writing aside, and what world it leaves: a run has ended so, and leaves its world;
-- or none is left, since no scenario could be read or memory was refused before the first record.
abbrev pub HasCauseOf : Asked → SourceState → SourceState → Option WorldValue → Status → Type 0
HasCauseOf asked old new None status = IsNotHad asked old new status
HasCauseOf asked old new (Some world) status = HasRun asked old new status world

-- the same by what the words ask for, if they are accepted; if they aren't, nothing is read
abbrev pub HasCause : Option Asked → SourceState → SourceState → Option WorldValue → Status → Type 0
HasCause None old new world status = (world ≡ None) × (new ≡ old) × ((status ≡ Usage) ⊎ (status ≡ NoMemory))
HasCause (Some asked) old new world status = HasCauseOf asked old new world status

-- ---- what is written

-- the mode, by what the words ask for
abbrev pub mode_asked : Option Asked → Mode
mode_asked None = Long
mode_asked (Some asked) = mode_of asked

-- the whole text: that of the log, and then the fault line
abbrev pub text_of_run : Mode → List Record → Status → List ℕ
text_of_run mode log status = text_of_log mode log ++ fault_line status

-- the status, by what it is without regard to writing, and by whether all was written
abbrev pub with_writing : Status → Written → Status
with_writing before All = before
with_writing before Failed = WriteFault

-- All text was written, and the sink counted no fault; or a write failed, which the status says: some first bytes of the
-- text were written, and the sink counted a fault.
abbrev pub HasWritten : SinkState → SinkState → List ℕ → Status → Status → Type 0
HasWritten old new text before status =
    ((status ≡ before) × AppendsAll old new text) ⊎ ((status ≡ WriteFault) × FirstFails old new text)
