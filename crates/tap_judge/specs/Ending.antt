-- Why the judge's call ends as it does, and what it has then written. The states of the source, and those of the sink, were `old` and are `new`.
--
-- Rule: docs/FORMATS.md, "The judge".
use Rattle.std.specs.Prelude.{◌≡◌, ◌⊎◌, ℕ, List, [], ◌∷◌, length}
use Rattle.tap_io.specs.AllBytes.{HasReadAll, HasReadTooMany, HasReadUntilFault, HasReadWithoutFault}
use Rattle.tap_io.specs.Sink.{SinkState}
use Rattle.tap_io.specs.Source.{SourceState}
use Rattle.tap_log.specs.declared.record.Record.{Record}
use Rattle.tap_headline.specs.Runs.{HasHeadlineBy}
use Rattle.tap_lawful.specs.Runs.{IsLawful}
use Rattle.tap_own_scripts.specs.Judging.{IsUnlawful}
use Rattle.tap_report.specs.Written.{AppendsAll, FirstFails}
use Rattle.tap_shape.specs.Text.{IsNotLog, IsTextOf}
use Rattle.tap_judge.specs.Limits.{most_log_bytes}
use Rattle.tap_judge.specs.declared.status.JudgeStatus.{JudgeStatus}
use Rattle.tap_judge.specs.declared.status.JudgeStatus.TheVariants.{Lawful, Unlawful, NotLog, TooLong, Usage, ReadFault, WriteFault, NoMemory}

-- ---- what is said of bytes

-- they are the text of a lawful log with so many records
pub record IsLawfulText (bytes : List ℕ) (records : ℕ) : Type 0 where
  pub log : List Record
  pub text : IsTextOf bytes log
  pub lawful : IsLawful log
  pub count : length log ≡ records

-- they are the text of a log that isn't lawful, and this is the first record that is refused
pub record IsUnlawfulText (bytes : List ℕ) (k : ℕ) : Type 0 where
  pub log : List Record
  pub text : IsTextOf bytes log
  pub unlawful : IsUnlawful log k

-- what each of the three statuses says that speak of bytes; the others say nothing
abbrev pub IsSaidOf : List ℕ → JudgeStatus → Type 0
IsSaidOf bytes (Lawful records) = IsLawfulText bytes records
IsSaidOf bytes (Unlawful k) = IsUnlawfulText bytes k
IsSaidOf bytes (NotLog line) = IsNotLog bytes line
IsSaidOf bytes other = ⊥

-- what was found of bytes: one of these three, which is true of them, or that memory was refused
abbrev pub IsAnswerOn : List ℕ → JudgeStatus → Type 0
IsAnswerOn bytes NoMemory = Unit {0}
IsAnswerOn bytes status = IsSaidOf bytes status

-- the status is one of these three
abbrev pub SpeaksOfBytes : JudgeStatus → Type 0
SpeaksOfBytes (Lawful records) = Unit {0}
SpeaksOfBytes (Unlawful k) = Unit {0}
SpeaksOfBytes (NotLog line) = Unit {0}
SpeaksOfBytes other = ⊥

-- So each of them comes exactly if it is true: no two are true of the same bytes.
abbrev pub OneIsSaid : Type 0
OneIsSaid = (bytes : List ℕ) (one other : JudgeStatus) → IsSaidOf bytes one → IsSaidOf bytes other → one ≡ other

-- ---- the cause

-- all bytes of the source are such of which the status is said
pub record HasReadSuch (old new : SourceState) (status : JudgeStatus) : Type 0 where
  pub bytes : List ℕ
  pub read : HasReadAll most_log_bytes old new bytes
  pub said : IsSaidOf bytes status

-- all bytes of the source are the text of this log
pub record HasReadLog (old new : SourceState) (log : List Record) : Type 0 where
  pub bytes : List ℕ
  pub read : HasReadAll most_log_bytes old new bytes
  pub text : IsTextOf bytes log

-- Why the bytes weren't read to their end. The status is none of the others.
abbrev pub IsNotRead : SourceState → SourceState → JudgeStatus → Type 0
IsNotRead old new TooLong = HasReadTooMany most_log_bytes old new
IsNotRead old new ReadFault = HasReadUntilFault most_log_bytes old new
IsNotRead old new NoMemory = HasReadWithoutFault most_log_bytes old new
IsNotRead old new other = ⊥

-- all bytes of the source are the text of a lawful log with so many records, which has the headline at each of its moments
pub record HasReadLawful (old new : SourceState) (records : ℕ) : Type 0 where
  pub log : List Record
  pub read : HasReadLog old new log
  pub lawful : IsLawful log
  pub headline : HasHeadlineBy lawful.script log
  pub count : length log ≡ records

-- Why a call without words ends so, writing aside. Words and writing are none of these causes.
abbrev pub IsCauseOf : SourceState → SourceState → JudgeStatus → Type 0
IsCauseOf old new TooLong = HasReadTooMany most_log_bytes old new
IsCauseOf old new ReadFault = HasReadUntilFault most_log_bytes old new
IsCauseOf old new NoMemory = HasReadWithoutFault most_log_bytes old new
IsCauseOf old new Usage = ⊥
IsCauseOf old new WriteFault = ⊥
IsCauseOf old new status = HasReadSuch old new status

-- the same of a call that has words or none: with one nothing is read
abbrev pub HasJudgeCause : {A : Type 0} → List A → SourceState → SourceState → JudgeStatus → Type 0
HasJudgeCause [] old new status = IsCauseOf old new status
HasJudgeCause (word ∷ words) old new status = (status ≡ Usage) × (new ≡ old)

-- ---- what is written

-- All of the line was written, and the sink counted no fault; or a write failed, which the status says: some first bytes of the line were
-- written, and the sink counted a fault.
abbrev pub HasWrittenLine : SinkState → SinkState → List ℕ → JudgeStatus → JudgeStatus → Type 0
HasWrittenLine old new text before status =
    ((status ≡ before) × AppendsAll old new text) ⊎ ((status ≡ WriteFault) × FirstFails old new text)
