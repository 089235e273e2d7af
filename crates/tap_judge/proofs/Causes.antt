-- Why the judge's call ends as it does, and that what it says of bytes is exact.
use Rattle.std.proofs.Common.{◌≡◌, ◌≢◌, inl, inr, ℕ, ◌-◌, ◌^◌, ◌<◌, ◌≤◌, List, [], ◌∷◌, ◌++◌, length, Option, None, Some, refl, ap, sym, subst, ◌∙◌, arith, append-nil}
use Rattle.std.specs.Prelude.{◌↔◌}
use Rattle.std.specs.Io.KnownBytes.{Consumes, IsAtEnd}
use Rattle.std.proofs.KnownBytes.{Consumes-nil}
use Rattle.tap_io.specs.AllBytes.{HasReadAll, HasReadAtMost, HasReadTooMany, HasReadUntilFault, HasReadWithoutFault}
use Rattle.tap_io.specs.Faults.{HasRisen}
use Rattle.tap_io.specs.Sink.{SinkState}
use Rattle.tap_io.specs.Source.{SourceState}
use Rattle.tap_log.specs.declared.record.Record.{Record}
use Rattle.tap_headline.proofs.Runs.{run_logs_have_headline}
use Rattle.tap_lawful.specs.Runs.{IsLawful}
use Rattle.tap_own_scripts.specs.Judging.{IsUnlawful}
use Rattle.tap_own_scripts.proofs.Judging.{judges_hold}
use Rattle.tap_report.specs.Written.{WritesText}
use Rattle.tap_report.specs.declared.written.Written.{Written}
use Rattle.tap_report.specs.declared.written.Written.TheVariants.{All, Failed}
use Rattle.tap_shape.specs.Text.{IsNotLog, IsTextOf}
use Rattle.tap_shape.proofs.Exact.{one_log}
use Rattle.tap_shape.proofs.Unique.{one_refused}
use Rattle.tap_judge.specs.Ending.{HasJudgeCause, HasReadLawful, HasReadSuch, HasWrittenLine, IsCauseOf, IsLawfulText, IsSaidOf, IsUnlawfulText, OneIsSaid, SpeaksOfBytes}
use Rattle.tap_judge.specs.Limits.{most_log_bytes}
use Rattle.tap_judge.specs.Status.{judge_status_with_writing}
use Rattle.tap_judge.proofs.Sizes.{records_within}
use Rattle.tap_judge.specs.declared.status.JudgeStatus.{JudgeStatus}
use Rattle.tap_judge.specs.declared.status.JudgeStatus.TheVariants.{Lawful, Unlawful, NotLog, TooLong, Usage, ReadFault, WriteFault, NoMemory}

-- ---- what is said of bytes

lawful_apart : (bytes : List ℕ) (records k : ℕ) → IsLawfulText bytes records → IsUnlawfulText bytes k → ⊥
lawful_apart bytes records k one other =
    let same = one_log bytes one.log other.log one.text other.text in
    let unlawful = other.unlawful in
    unlawful.refused (subst IsLawful same one.lawful)

one_lawful : (bytes : List ℕ) (records : ℕ) → IsLawfulText bytes records → (other : JudgeStatus) → IsSaidOf bytes other → Lawful records ≡ other
one_lawful bytes records one (Lawful also) other =
    let same = one_log bytes one.log other.log one.text other.text in
    ap Lawful (sym one.count ∙ ap length same ∙ other.count)
one_lawful bytes records one (Unlawful k) other = absurd (lawful_apart bytes records k one other)
one_lawful bytes records one (NotLog line) other = absurd (other.none one.log one.text)
one_lawful bytes records one status other = absurd other

one_unlawful : (bytes : List ℕ) (k : ℕ) → IsUnlawfulText bytes k → (other : JudgeStatus) → IsSaidOf bytes other → Unlawful k ≡ other
one_unlawful bytes k one (Lawful records) other = absurd (lawful_apart bytes records k other one)
one_unlawful bytes k one (Unlawful also) other =
    let same = one_log bytes one.log other.log one.text other.text in
    ap Unlawful (judges_hold.one other.log k also (subst (λ l. IsUnlawful l k) same one.unlawful) other.unlawful)
one_unlawful bytes k one (NotLog line) other = absurd (other.none one.log one.text)
one_unlawful bytes k one status other = absurd other

one_not_log : (bytes : List ℕ) (line : ℕ) → IsNotLog bytes line → (other : JudgeStatus) → IsSaidOf bytes other → NotLog line ≡ other
one_not_log bytes line one (Lawful records) other = absurd (one.none other.log other.text)
one_not_log bytes line one (Unlawful k) other = absurd (one.none other.log other.text)
one_not_log bytes line one (NotLog also) other = ap NotLog (one_refused bytes line also one other)
one_not_log bytes line one status other = absurd other

pub one_is_said : OneIsSaid
one_is_said bytes (Lawful records) other one said = one_lawful bytes records one other said
one_is_said bytes (Unlawful k) other one said = one_unlawful bytes k one other said
one_is_said bytes (NotLog line) other one said = one_not_log bytes line one other said
one_is_said bytes status other one said = absurd one

pub few_records : (bytes : List ℕ) (log : List Record) → length bytes ≤ most_log_bytes → IsTextOf bytes log → length log < 2 ^ 32 - 1
few_records bytes log within text = let size = records_within bytes log text in omega (arith, size, within)

-- ---- what was read

module _ (old new : SourceState) where
  -- bytes that are told
  all_consumed : (bytes told : List ℕ) (left : Option (List ℕ)) → Consumes (Some told) left bytes → IsAtEnd left → bytes ≡ told
  all_consumed bytes told None consumes ends = absurd consumes
  all_consumed bytes told (Some rest) consumes ends = sym (consumes ∙ ap (λ l. bytes ++ l) ends ∙ append-nil bytes)

  bytes_told : (bytes told : List ℕ) → HasReadAll most_log_bytes old new bytes → old.left ≡ Some told → bytes ≡ told
  bytes_told bytes told read is =
      all_consumed bytes told new.left (subst (λ left. Consumes left new.left bytes) is read.consumes) read.at_end

  pub such_of : {A : Type 0} (words : List A) (before : JudgeStatus) → HasJudgeCause words old new before → SpeaksOfBytes before
      → HasReadSuch old new before
  such_of [] (Lawful records) cause speaks = cause
  such_of [] (Unlawful k) cause speaks = cause
  such_of [] (NotLog line) cause speaks = cause
  such_of [] other cause speaks = absurd speaks
  such_of (word ∷ words) before cause speaks = absurd (subst SpeaksOfBytes cause.0 speaks)

  pub exactly : {A : Type 0} (words : List A) (before : JudgeStatus) → HasJudgeCause words old new before → (told : List ℕ) (status : JudgeStatus)
      → old.left ≡ Some told → SpeaksOfBytes before → IsSaidOf told status → before ≡ status
  exactly words before cause told status is speaks said =
      let such = such_of words before cause speaks in
      one_is_said told before status (subst (λ bytes. IsSaidOf bytes before) (bytes_told such.bytes told such.read is) such.said) said

  pub read_well : (bytes : List ℕ) → HasReadAll most_log_bytes old new bytes → HasReadWithoutFault most_log_bytes old new
  read_well bytes all = record {
    read = record { bytes = bytes; within = all.within; consumes = all.consumes };
    faults = all.faults;
  }

  -- the headline comes with it
  pub with_headline : (records : ℕ) → HasReadSuch old new (Lawful records) → HasReadLawful old new records
  with_headline records such =
      let said = such.said in
      record {
        log = said.log;
        read = record { bytes = such.bytes; read = such.read; text = said.text };
        lawful = said.lawful;
        headline = run_logs_have_headline said.lawful.script said.log said.lawful.valid said.lawful.run;
        count = said.count;
      }

-- ---- what a status says of the reading, whichever it is

pub record HasReadFor (old new : SourceState) (status : JudgeStatus) : Type 0 where
  pub read : status ≢ TooLong → HasReadAtMost most_log_bytes old new
  pub too_long : status ≡ TooLong → HasReadTooMany most_log_bytes old new
  pub failed : status ≡ ReadFault → HasReadUntilFault most_log_bytes old new
  pub no_memory : status ≡ NoMemory → HasReadWithoutFault most_log_bytes old new
  pub unfailed : status ≢ ReadFault → new.faults ≡ old.faults

module _ (old new : SourceState) where
  well : (status : JudgeStatus) → HasReadWithoutFault most_log_bytes old new → status ≢ TooLong → status ≢ ReadFault → HasReadFor old new status
  well status read short unfailed = record {
    read = λ _. read.read;
    too_long = λ is. absurd (short is);
    failed = λ is. absurd (unfailed is);
    no_memory = λ _. read;
    unfailed = λ _. read.faults;
  }

  such_for : (status : JudgeStatus) → HasReadSuch old new status → status ≢ TooLong → status ≢ ReadFault → HasReadFor old new status
  such_for status such short unfailed = well status (read_well old new such.bytes such.read) short unfailed

  cause_for : (status : JudgeStatus) → IsCauseOf old new status → HasReadFor old new status
  cause_for TooLong cause = record {
    read = λ other. absurd (other refl);
    too_long = λ _. cause;
    failed = λ is. absurd (cc);
    no_memory = λ is. absurd (cc);
    unfailed = λ _. cause.faults;
  }
  cause_for ReadFault cause = record {
    read = λ _. cause.read;
    too_long = λ is. absurd (cc);
    failed = λ _. cause;
    no_memory = λ is. absurd (cc);
    unfailed = λ other. absurd (other refl);
  }
  cause_for NoMemory cause = well NoMemory cause (λ is. cc) (λ is. cc)
  cause_for (Lawful records) cause = such_for (Lawful records) cause (λ is. cc) (λ is. cc)
  cause_for (Unlawful k) cause = such_for (Unlawful k) cause (λ is. cc) (λ is. cc)
  cause_for (NotLog line) cause = such_for (NotLog line) cause (λ is. cc) (λ is. cc)
  cause_for Usage cause = absurd cause
  cause_for WriteFault cause = absurd cause

  untouched : new ≡ old → HasReadWithoutFault most_log_bytes old new
  untouched is = subst (HasReadWithoutFault most_log_bytes old) (sym is) (record {
    read = record { bytes = []; within = omega arith; consumes = Consumes-nil old.left };
    faults = refl;
  })

  pub read_for : {A : Type 0} (words : List A) (status : JudgeStatus) → HasJudgeCause words old new status → HasReadFor old new status
  read_for [] status cause = cause_for status cause
  read_for (word ∷ words) status cause = subst (HasReadFor old new) (sym cause.0) (well Usage (untouched cause.1) (λ is. cc) (λ is. cc))

-- ---- words and writing

module _ (old new : SourceState) where
  not_usage : (status : JudgeStatus) → IsCauseOf old new status → status ≢ Usage
  not_usage Usage cause = absurd cause
  not_usage other cause = λ is. cc

  not_writing : (status : JudgeStatus) → IsCauseOf old new status → status ≢ WriteFault
  not_writing WriteFault cause = absurd cause
  not_writing other cause = λ is. cc

  pub usage_exactly : {A : Type 0} (words : List A) (status : JudgeStatus) → HasJudgeCause words old new status → (status ≡ Usage) ↔ (words ≢ [])
  usage_exactly [] status cause = (λ is. absurd (not_usage status cause is), λ some. absurd (some refl))
  usage_exactly (word ∷ words) status cause = (λ is. λ none. cc, λ some. cause.0)

  pub usage_untouched : {A : Type 0} (words : List A) (status : JudgeStatus) → HasJudgeCause words old new status → status ≡ Usage → new ≡ old
  usage_untouched [] status cause is = absurd (not_usage status cause is)
  usage_untouched (word ∷ words) status cause is = cause.1

  pub never_writing : {A : Type 0} (words : List A) (status : JudgeStatus) → HasJudgeCause words old new status → status ≢ WriteFault
  never_writing [] status cause = not_writing status cause
  never_writing (word ∷ words) status cause = λ is. let both = sym cause.0 ∙ is in cc

-- all was written, or a write failed
pub written_so : (old new : SinkState) (text : List ℕ) (before : JudgeStatus) (written : Written) → WritesText old new text All written
    → HasWrittenLine old new text before (judge_status_with_writing before written)
written_so old new text before All w = inl (refl, w.answer)
written_so old new text before Failed w = inr (refl, w.answer)

pub write_failed : (old new : SinkState) (text : List ℕ) (before status : JudgeStatus) → HasWrittenLine old new text before status
    → before ≢ WriteFault → status ≡ WriteFault → HasRisen old.faults new.faults
write_failed old new text before status (inl all) other is = absurd (other (sym all.0 ∙ is))
write_failed old new text before status (inr first) other is = let fails = first.1 in fails.risen
