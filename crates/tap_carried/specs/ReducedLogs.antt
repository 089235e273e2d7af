-- A log and its reduced log agree.
--
-- Rule: docs/FORMATS.md, "Groups and moments".
use Rattle.std.specs.Prelude.{◌≡◌, ℕ, Bool, true, false, List, filter, length, take}
use Rattle.tap_scenario.specs.declared.step.Step.{Step}
use Rattle.tap_scenario.specs.declared.step.Step.TheVariants.{Join, Depart, Publish, Withdraw, Find, Walk, Root, RootSet, Table, Pointers, Abandon, Cast}
use Rattle.tap_log.specs.declared.record.Record.{Record}
use Rattle.tap_log.specs.Counts.{cast_count, sent_count, ticket_count}
use Rattle.tap_log.specs.Frames.{bytes_of}
use Rattle.tap_log.specs.Log.{begun_steps}
use Rattle.tap_log.specs.Reduced.{reduced}
use Rattle.tap_history.specs.Core.{abandoned_of, accepted_steps, ceased_of, core_of, gone_of, present_of}
use Rattle.tap_history.specs.Departing.{departing_of}
use Rattle.tap_history.specs.Moments.{is_moment, is_rest, outstanding}
use Rattle.tap_history.specs.Names.{names_of}
use Rattle.tap_history.specs.Published.{published_of}
use Rattle.tap_history.specs.Refusals.{first_refusal}
use Rattle.tap_history.specs.StepAsks.{is_start}
use Rattle.tap_carried.specs.LogTurns.{IsLogOfTurns, IsTurn, Turn, group_of_turn, reduced_group}

-- ---- what both say

-- The step starts or observes something: it takes, damages, loses or repeats nothing, and has nothing sent again.
unfoldable pub starts_or_observes : Step → Bool
starts_or_observes (Join name via) = true
starts_or_observes (Depart name) = true
starts_or_observes (Publish object server) = true
starts_or_observes (Withdraw object server) = true
starts_or_observes (Find object asker) = true
starts_or_observes (Abandon name) = true
starts_or_observes (Cast word prefix asker) = true
starts_or_observes (Walk object asker) = true
starts_or_observes (Root object) = true
starts_or_observes (RootSet object asker) = true
starts_or_observes (Table name) = true
starts_or_observes (Pointers name) = true
starts_or_observes other = false

-- What the log says of frames, counts, nodes and pairs is what its reduced log says, and both accept the same starts. A step that starts or
-- observes something is refused for the same reason after both, or after neither.
pub record AgreesWithReduced (log : List Record) : Type 0 where
  pub outstanding : outstanding (reduced log) ≡ outstanding log
  pub bytes : (number : ℕ) → bytes_of (reduced log) number ≡ bytes_of log number
  pub sent : sent_count (reduced log) ≡ sent_count log
  pub tickets : ticket_count (reduced log) ≡ ticket_count log
  pub casts : cast_count (reduced log) ≡ cast_count log
  pub steps : begun_steps (reduced log) ≡ begun_steps log
  pub core : core_of (reduced log) ≡ core_of log
  pub present : present_of (reduced log) ≡ present_of log
  pub names : names_of (reduced log) ≡ names_of log
  pub gone : gone_of (reduced log) ≡ gone_of log
  pub abandoned : abandoned_of (reduced log) ≡ abandoned_of log
  pub ceased : ceased_of (reduced log) ≡ ceased_of log
  pub published : published_of (reduced log) ≡ published_of log
  pub departing : departing_of (reduced log) ≡ departing_of log
  pub starts : filter is_start (accepted_steps (reduced log)) ≡ filter is_start (accepted_steps log)
  pub refusals : (step : Step) → starts_or_observes step ≡ true → first_refusal (reduced log) step ≡ first_refusal log step

-- ---- moments

-- how many of the first m records the reduced log keeps
abbrev pub kept_count : List Record → ℕ → ℕ
kept_count log m = length (reduced (take m log))

-- there is a moment of the log up to which the reduced log keeps so many records
pub record IsFromMoment (log : List Record) (kept : ℕ) : Type 0 where
  pub m : ℕ
  pub moment : is_moment log m ≡ true
  pub is : kept_count log m ≡ kept

-- The reduced log has of a turn what its definition says. Each moment of a log of turns is one of its reduced log, and each moment of that comes
-- from one of the log. At each of its moments it is a log of turns, and its reduced log then begins the whole one. At a rest its reduced log is at
-- rest, and at each moment both agree.
pub record LogsAgree : Type 0 where
  pub groups : (carried : Bool) (turn : Turn) → IsTurn carried turn → reduced (group_of_turn carried turn) ≡ reduced_group turn
  pub moments : (carried : Bool) (log : List Record) (m : ℕ) → IsLogOfTurns carried log → is_moment log m ≡ true
      → is_moment (reduced log) (kept_count log m) ≡ true
  pub from : (carried : Bool) (log : List Record) (kept : ℕ) → IsLogOfTurns carried log → is_moment (reduced log) kept ≡ true
      → IsFromMoment log kept
  pub front : (log : List Record) (m : ℕ) → reduced (take m log) ≡ take (kept_count log m) (reduced log)
  pub at : (carried : Bool) (log : List Record) (m : ℕ) → IsLogOfTurns carried log → is_moment log m ≡ true
      → IsLogOfTurns carried (take m log)
  pub rest : (carried : Bool) (log : List Record) → IsLogOfTurns carried log → is_rest log ≡ true → is_rest (reduced log) ≡ true
  pub agree : (carried : Bool) (log : List Record) → IsLogOfTurns carried log → AgreesWithReduced log
