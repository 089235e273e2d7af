-- At each moment of the log of a run, carried or not, its reduced log has the headline, and both agree; and so it is once the run has ended.
use Rattle.std.proofs.Common.{◌≡◌, ◌≤◌, Bool, true, false, not, cond, ℕ, List, [], ◌∷◌, ◌++◌, length, take, filter, Some, refl, ap, sym, subst, ◌∙◌, arith}
use Rattle.tap_name.specs.Settings.{SettingsValue}
use Rattle.tap_scenario.specs.declared.step.Step.{Step}
use Rattle.tap_log.specs.declared.record.Record.{Record}
use Rattle.tap_log.specs.declared.record.Record.TheVariants.{Step as StepRecord}
use Rattle.tap_log.specs.Kinds.{is_carried}
use Rattle.tap_log.specs.Log.{last_of}
use Rattle.tap_log.specs.Reduced.{is_added, reduced}
use Rattle.tap_history.specs.Core.{accepted_steps, members_of}
use Rattle.tap_history.specs.Departing.{departing_of}
use Rattle.tap_history.specs.Moments.{is_moment}
use Rattle.tap_history.specs.StepAsks.{is_start}
use Rattle.tap_runs.specs.Beginning.{Beginning}
use Rattle.tap_carried.specs.LogTurns.{IsLogOfTurns}
use Rattle.tap_carried.specs.ReducedLogs.{AgreesWithReduced}
use Rattle.tap_carried.specs.ReducedRuns.{IsRunOfTurns, ReducesToRun}
use Rattle.tap_carried.proofs.BeginningKept.{log_kept}
use Rattle.tap_carried.proofs.ReducedLogs.{log_agrees, logs_agree, rest_too}
use Rattle.tap_carried.proofs.ReducedRuns.{runs_reduce}
use Rattle.tap_carried.proofs.SameNodes.{SaysAlike}
use Rattle.tap_carried.proofs.SameStarts.{starts_in}
use Rattle.tap_carried.proofs.TurnGroups.{reduced-append}
use Rattle.tap_carried.proofs.TurnsKept.{IsKept}
use Rattle.tap_safe_runs.specs.Safe.{IsRun}
use Rattle.tap_safe_runs.proofs.NeverAlone.{HasNoStartLast, no_start_last}
use Rattle.tap_headline.specs.Carried.{IsMomentOfReduced}
use Rattle.tap_headline.specs.Endings.{MayEnd}
use Rattle.tap_headline.specs.Headline.{HasHeadline}
use Rattle.tap_headline.proofs.Ended.{IsEnded, run_ended}
use Rattle.tap_headline.proofs.Headline.{ended_logs_have_headline}

-- the reduced log is that of a run
pub as_run : (b : Beginning) (log : List Record) → ReducesToRun b log → IsRun b (reduced log)
as_run b log is = record { course = is.course; going = is.going; steps = is.steps }

-- ---- the last record

last_later : (first item : Record) (items : List Record) → last_of items ≡ Some item → last_of (first ∷ items) ≡ Some item
last_later first item [] is = absurd (cc)
last_later first item (next ∷ items) is = is

last_so : (left_out : Bool) (first item : Record) (items : List Record) → last_of items ≡ Some item
    → last_of (cond {A = List Record} (not left_out) (first ∷ items) items) ≡ Some item
last_so true first item items is = is
last_so false first item items is = last_later first item items is

-- it is that of the reduced log if this keeps it
last_kept : (log : List Record) (item : Record) → is_added item ≡ false → last_of log ≡ Some item → last_of (reduced log) ≡ Some item
last_kept [] item kept is = absurd (cc)
last_kept (first ∷ []) item kept is =
    let same : first ≡ item = cc in
    ap (λ b. last_of (cond {A = List Record} (not b) (first ∷ []) [])) (ap is_added same ∙ kept) ∙ is
last_kept (first ∷ next ∷ items) item kept is =
    last_so (is_added first) first item (reduced (next ∷ items)) (last_kept (next ∷ items) item kept is)

step_stays : (index : ℕ) (step : Step) → is_added (StepRecord index step) ≡ false
unfolding is_added
step_stays index step = refl

members_more : (log more : List Record) → 1 ≤ length log → members_of (log ++ more) ≡ members_of log
members_more [] more begun = absurd (omega (arith, begun))
members_more (item ∷ items) more begun = refl

-- ---- a run, carried or not

-- what is so of the records of a run up to a moment
pub record HasHeadlineSoFar (p : SettingsValue) (front : List Record) : Type 0 where
  pub headline : HasHeadline p (reduced front)
  pub moment : IsMomentOfReduced front
  pub agrees : AgreesWithReduced front

module _ (c : Bool) (b : Beginning) (log : List Record) (run : IsRunOfTurns c b log) where
  pub run_kept : IsKept c log
  run_kept = log_kept c log (runs_reduce.turns c b log run)

  pub run_reduced : IsRun b (reduced log)
  run_reduced = as_run b log (runs_reduce.run c b log run)

  -- its last record isn't the step of a start
  pub run_alone : HasNoStartLast log
  run_alone index step is =
      no_start_last b (reduced log) run_reduced index step (last_kept log (StepRecord index step) (step_stays index step) is)

  pub at_moment : (m : ℕ) → is_moment log m ≡ true → HasHeadlineSoFar b.settings (take m log)
  at_moment m is =
      let front = take m log in
      let turns : IsLogOfTurns c front = logs_agree.at c log m (runs_reduce.turns c b log run) is in
      record {
        headline = ended_logs_have_headline.going b (reduced front) (as_run b front (runs_reduce.at c b log m run is));
        moment = record { moment = (log_kept c front turns).whole; rest = logs_agree.rest c front turns };
        agrees = logs_agree.agree c front turns;
      }

  module _ (ending : List Record) (may : MayEnd (reduced log) (reduced ending)) where
    abbrev longer : List Record
    longer = log ++ ending

    parts : reduced longer ≡ reduced log ++ reduced ending
    parts = reduced-append log ending

    ended : IsEnded b (reduced log) (reduced ending)
    ended = run_ended b (reduced log) run_reduced (reduced ending) may

    -- with what changes nothing in the reduced log, and accepts no start and has nobody depart, both say the same
    pub ended_alike : is_carried longer ≡ c → filter is_start (accepted_steps longer) ≡ filter is_start (accepted_steps log)
        → departing_of longer ≡ departing_of log → SaysAlike c longer
    ended_alike carried starts departing =
        let kept = run_kept in
        record {
          carried = carried;
          uncarried = ap is_carried parts ∙ ended.uncarried;
          members =
              ap members_of parts ∙ members_more (reduced log) (reduced ending) kept.reduced_begun ∙ kept.members
              ∙ sym (members_more log ending kept.begun);
          starts =
              ap (λ d. starts_in d longer) (sym carried) ∙ starts ∙ ap (λ d. starts_in d log) kept.carried ∙ kept.starts
              ∙ ap (λ d. starts_in d (reduced log)) (sym kept.uncarried) ∙ sym ended.same.starts
              ∙ ap (λ d. starts_in d (reduced log ++ reduced ending)) ended.uncarried ∙ ap (starts_in false) (sym parts);
          departing = ap departing_of parts ∙ ended.same.departing ∙ kept.departing ∙ sym departing;
        }

    -- so it has the headline, if its end is a moment
    pub at_end : SaysAlike c longer → is_moment (reduced longer) (length (reduced longer)) ≡ true → HasHeadlineSoFar b.settings longer
    at_end alike moment = record {
      headline =
          subst (HasHeadline b.settings) (sym parts)
          (ended_logs_have_headline.ended b (reduced log) (reduced ending) run_reduced may);
      moment = record { moment = moment; rest = rest_too c longer alike };
      agrees = log_agrees c longer alike;
    }
