-- What the calls of a world answer, and what its log is then.
--
-- Rule: docs/FORMATS.md, "The course of a run" and "The ways a run ends".
use Rattle.std.specs.Prelude.{◌≡◌, ◌≢◌, ◌<◌, ◌≤◌, ◌⊎◌, ℕ, nat_le, Bool, true, false, if◌then◌else◌, List, [], ◌∷◌, ◌++◌, length, slice_get, Option, None, Some, Result, Ok, Err}
use Rattle.tap_scenario.specs.declared.step.Step.{Step}
use Rattle.tap_log.specs.declared.record.Record.{Record}
use Rattle.tap_log.specs.declared.record.Record.TheVariants.{Step as StepRecord, Refused as RefusedRecord, Spent as SpentRecord, Finished}
use Rattle.tap_log.specs.declared.record.Refusal.{Refusal}
use Rattle.tap_log.specs.declared.record.Refusal.TheVariants.{NoSuchFlight}
use Rattle.tap_log.specs.Counts.{sent_count}
use Rattle.tap_log.specs.Log.{last_of}
use Rattle.tap_history.specs.Moments.{outstanding}
use Rattle.tap_history.specs.Refusals.{first_refusal}
use Rattle.tap_ledger.specs.Woven.{remark_after}
use Rattle.tap_runs.specs.Beginning.{Beginning}
use Rattle.tap_runs.specs.Groups.{step_group, taken_group}
use Rattle.tap_engine.specs.Kinds.{is_finished, last_index, may_be_refused, most_index}
use Rattle.tap_engine.specs.World.{WorldValue}
use Rattle.tap_engine.specs.declared.stop.Stop.{Stop}
use Rattle.tap_engine.specs.declared.stop.Stop.TheVariants.{Refused, Spent, NoMemory, Ended}

-- with this group no more frames are sent in all than may be
abbrev pub is_within : Beginning → List Record → List Record → Bool
is_within b log group = nat_le (sent_count (log ++ group)) b.frames

-- ---- outcomes

-- the answer of a call, and what is then seen of the world but for its nodes
pub record WorldOutcome : Type 0 where
  pub answer : Result (Unit {0}) Stop
  pub log : List Record
  pub refused : Option Refusal
  pub stopped : Bool

-- the world stays as it was
abbrev pub world_stays : WorldValue → Stop → WorldOutcome
world_stays w stop = record { answer = Err stop; log = w.log; refused = w.refused; stopped = w.stopped }

-- these records are added
abbrev pub adds : WorldValue → List Record → WorldOutcome
adds w items = record { answer = Ok tt; log = w.log ++ items; refused = w.refused; stopped = w.stopped }

-- the step is added, and its refusal isn't noted yet
abbrev pub refuses_step : WorldValue → ℕ → Step → Refusal → WorldOutcome
refuses_step w index step refusal =
    record (adds w (StepRecord index step ∷ [])) { answer = Err (Refused refusal); refused = Some refusal }

-- these records are added, and then `Spent`: the world is stopped
abbrev pub spends : WorldValue → List Record → WorldOutcome
spends w first = record (adds w (first ++ SpentRecord w.beginning.frames ∷ [])) { answer = Err Spent; stopped = true }

-- the group is added if no more frames are sent in all than may be; else the first of its records that are given, and `Spent`
abbrev pub adds_within : WorldValue → List Record → List Record → WorldOutcome
adds_within w first group = if is_within w.beginning w.log group then adds w group else spends w first

-- a world that was stopped does nothing
abbrev pub unless_stopped : WorldValue → WorldOutcome → WorldOutcome
unless_stopped w outcome = if w.stopped then world_stays w Ended else outcome

-- the refusal of an answer, if it is one
abbrev pub refusal_in : Result (Unit {0}) Stop → Option Refusal
refusal_in (Ok done) = None
refusal_in (Err (Refused refusal)) = Some refusal
refusal_in (Err stop) = None

-- whether a world is stopped by it
abbrev pub stops : Result (Unit {0}) Stop → Bool
stops (Ok done) = false
stops (Err Spent) = true
stops (Err NoMemory) = true
stops (Err stop) = false

-- ---- the calls

-- a start, an observation or a damaged copy: refused for the first cause that holds, and else its group is added
abbrev pub unless_refused : WorldValue → ℕ → Step → Option Refusal → WorldOutcome
unless_refused w index step (Some refusal) = refuses_step w index step refusal
unless_refused w index step None = adds_within w (StepRecord index step ∷ []) (step_group w.beginning.settings w.log index step)

abbrev pub step_outcome : WorldValue → ℕ → Step → WorldOutcome
step_outcome w index step = unless_stopped w (unless_refused w index step (first_refusal w.log step))

-- the frame of this number is taken; without one the place is refused, with the number of those outstanding
abbrev pub takes_number : WorldValue → Option ℕ → WorldOutcome
takes_number w (Some number) = adds_within w [] (taken_group w.beginning.settings w.log number)
takes_number w None = world_stays w (Refused (NoSuchFlight (length (outstanding w.log))))

-- the frame at this place of the outstanding ones is taken
abbrev pub deliver_outcome : WorldValue → ℕ → WorldOutcome
deliver_outcome w place = unless_stopped w (takes_number w (slice_get (outstanding w.log) place))

-- a choice: the step alone
abbrev pub mark_outcome : WorldValue → ℕ → Step → WorldOutcome
mark_outcome w index step = unless_stopped w (adds w (StepRecord index step ∷ []))

-- the refusal of the step with this index: none is left that isn't noted
abbrev pub note_outcome : WorldValue → ℕ → Refusal → WorldOutcome
note_outcome w index refusal =
    unless_stopped w (record (adds w (RefusedRecord index refusal ∷ [])) { refused = None })

-- all steps were run, which were so many
abbrev pub finish_outcome : WorldValue → ℕ → WorldOutcome
finish_outcome w steps = unless_stopped w (adds w (Finished steps ∷ []))

-- ---- how a call goes

-- memory was refused: the world had not been stopped, and now is; its log stays as it was
pub record IsStoppedShort (before after : WorldValue) : Type 0 where
  pub went_on : before.stopped ≡ false
  pub stopped : after.stopped ≡ true
  pub log : after.log ≡ before.log
  pub refused : after.refused ≡ before.refused

-- The answer and the world afterwards are those of the outcome, unless memory was refused. With what the log begins stays, and so do the
-- remarks.
pub record WorldAnswersAs (outcome : WorldOutcome) (before : WorldValue) (given : Result (Unit {0}) Stop) (after : WorldValue) : Type 0 where
  pub answer : given ≢ Err NoMemory → given ≡ outcome.answer
  pub log : given ≢ Err NoMemory → after.log ≡ outcome.log
  pub refused : given ≢ Err NoMemory → after.refused ≡ outcome.refused
  pub stopped : given ≢ Err NoMemory → after.stopped ≡ outcome.stopped
  pub memory : given ≡ Err NoMemory → IsStoppedShort before after
  pub beginning : after.beginning ≡ before.beginning
  pub added : after.added ≡ before.added

-- what a remark answers, unless memory is refused, by whether the world had been stopped
abbrev pub remark_answer : Bool → Result (Unit {0}) Stop
remark_answer stopped = if stopped then Err Ended else Ok tt

-- How a remark goes: it comes last in the whole log; or the world had been stopped, and stays; or memory was refused, and it is stopped.
-- All else stays.
pub record Remarks (item : Record) (before : WorldValue) (given : Result (Unit {0}) Stop) (after : WorldValue) : Type 0 where
  pub answer : given ≢ Err NoMemory → given ≡ remark_answer before.stopped
  pub added : given ≡ Ok tt → after ≡ record before { added = before.added ++ remark_after before.log item ∷ [] }
  pub ended : given ≡ Err Ended → after ≡ before
  pub went_on : given ≡ Err NoMemory → before.stopped ≡ false
  pub stopped : given ≡ Err NoMemory → after ≡ record before { stopped = true }

-- ---- what the calls ask

-- the world may go on: no refusal is left to be noted, and the log doesn't end with `Finished`
pub record MayGoOn (w : WorldValue) : Type 0 where
  pub noted : w.refused ≡ None
  pub unfinished : is_finished w.log ≡ false

-- the index is above that of the last step, from 1 on, and at most 1,000,000
pub record IsNextIndex (w : WorldValue) (index : ℕ) : Type 0 where
  pub above : last_index w.log < index
  pub most : index ≤ most_index

-- The refusal may be noted: the last record is the step with this index, whose refusal it is; or the step is a choice that may be
-- refused.
pub record MayNote (w : WorldValue) (index : ℕ) (refusal : Refusal) : Type 0 where
  pub step : Step
  pub last : last_of w.log ≡ Some (StepRecord index step)
  pub may : (w.refused ≡ Some refusal) ⊎ (may_be_refused step ≡ true)
