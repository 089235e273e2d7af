-- The laws of a world's log: what each call of a world makes of it.
use Rattle.std.specs.Prelude.{◌≡◌, ◌⊎◌, ℕ, nat_le, true, false, List, length, Option}
use Rattle.tap_scenario.specs.declared.step.Step.{Step}
use Rattle.tap_scenario.specs.declared.step.Step.TheVariants.{Deliver}
use Rattle.tap_log.specs.declared.record.Record.{Record}
use Rattle.tap_log.specs.declared.record.Refusal.{Refusal}
use Rattle.tap_log.specs.declared.record.Refusal.TheVariants.{NoSuchFlight}
use Rattle.tap_log.specs.Kinds.{is_carried}
use Rattle.tap_log.specs.Log.{begun_steps}
use Rattle.tap_history.specs.Groups.{is_ended}
use Rattle.tap_history.specs.Moments.{outstanding}
use Rattle.tap_history.specs.Refusals.{first_refusal, refused_if}
use Rattle.tap_history.specs.StepAsks.{is_start}
use Rattle.tap_node.specs.Node.{NodeValue}
use Rattle.tap_runs.specs.Beginning.{Beginning, IsWithinLimits}
use Rattle.tap_runs.specs.Course.{IsCourse, is_choice}
use Rattle.tap_engine.specs.Kinds.{damages, observes}
use Rattle.tap_engine.specs.Outcome.{IsNextIndex, MayGoOn, MayNote, WorldOutcome, deliver_outcome, finish_outcome, is_within, mark_outcome, note_outcome, step_outcome}
use Rattle.tap_runs.specs.Groups.{step_group}
use Rattle.tap_engine.specs.World.{HasBegun, WorldValue}
use Rattle.tap_engine.specs.WorldLog.{IsWorldLog}

-- why a place is refused, if so many frames are outstanding
abbrev pub place_refused : ℕ → ℕ → Option Refusal
place_refused count place = refused_if (nat_le count place) (NoSuchFlight count)

-- A `deliver` of a log that isn't carried is refused exactly if no frame is at the place.
abbrev pub DeliveriesRefused : Type 0
DeliveriesRefused = (log : List Record) (place : ℕ) → is_carried log ≡ false
    → first_refusal log (Deliver place) ≡ place_refused (length (outstanding log)) place

-- a world that is left by this outcome, with these nodes
abbrev pub left_by_outcome : WorldValue → WorldOutcome → List (List ℕ × NodeValue) → WorldValue
left_by_outcome w outcome nodes = record {
  beginning = w.beginning;
  log = outcome.log;
  added = w.added;
  refused = outcome.refused;
  stopped = outcome.stopped;
  nodes = nodes;
}

-- A world begins with a world's log, and each call leaves it one: steps, deliveries, choices, refusals
-- that are noted, the end of all steps, and want of memory. Until a world was stopped, and if no refusal is to be noted and the log
-- hasn't its end, its log is a course. An observation or a damaged copy sends no frames.
pub record WorldLogGrows : Type 0 where
  pub begins : (b : Beginning) (w : WorldValue) → IsWithinLimits b → HasBegun b w → IsWorldLog w
  pub steps : (w : WorldValue) (index : ℕ) (step : Step) (nodes : List (List ℕ × NodeValue)) → IsWorldLog w → MayGoOn w
      → IsNextIndex w index → (is_start step ≡ true) ⊎ ((observes step ≡ true) ⊎ (damages step ≡ true))
      → IsWorldLog (left_by_outcome w (step_outcome w index step) nodes)
  pub takes : (w : WorldValue) (place : ℕ) (nodes : List (List ℕ × NodeValue)) → IsWorldLog w → MayGoOn w
      → IsWorldLog (left_by_outcome w (deliver_outcome w place) nodes)
  pub marks : (w : WorldValue) (index : ℕ) (step : Step) (nodes : List (List ℕ × NodeValue)) → IsWorldLog w → MayGoOn w
      → IsNextIndex w index → is_choice step ≡ true → IsWorldLog (left_by_outcome w (mark_outcome w index step) nodes)
  pub notes : (w : WorldValue) (index : ℕ) (refusal : Refusal) (nodes : List (List ℕ × NodeValue)) → IsWorldLog w
      → MayNote w index refusal → IsWorldLog (left_by_outcome w (note_outcome w index refusal) nodes)
  pub finishes : (w : WorldValue) (steps : ℕ) (nodes : List (List ℕ × NodeValue)) → IsWorldLog w → MayGoOn w
      → steps ≡ length (begun_steps w.log) → IsWorldLog (left_by_outcome w (finish_outcome w steps) nodes)
  pub stops : (w : WorldValue) → IsWorldLog w → MayGoOn w → IsWorldLog (record w { stopped = true })
  pub course : (w : WorldValue) → IsWorldLog w → MayGoOn w → w.stopped ≡ false
      → IsCourse w.beginning w.log × (is_ended w.log ≡ false)
  pub quiet : (w : WorldValue) (index : ℕ) (step : Step) → IsWorldLog w → MayGoOn w → w.stopped ≡ false
      → (observes step ≡ true) ⊎ (damages step ≡ true) → is_within w.beginning w.log (step_group w.beginning.settings w.log index step) ≡ true
