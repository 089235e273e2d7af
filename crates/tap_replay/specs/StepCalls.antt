-- When a world may run a step, and what it answers to one.
--
-- Rule: docs/FORMATS.md, "What comes next".
use Rattle.std.specs.Prelude.{◌≡◌, ◌≤◌, ℕ, false, true, [], ◌∷◌, Option, None, Some}
use Rattle.tap_scenario.specs.declared.step.Step.{Step}
use Rattle.tap_log.specs.declared.record.Record.TheVariants.{Step as StepRecord}
use Rattle.tap_log.specs.Counts.{sent_count}
use Rattle.tap_log.specs.Kinds.{is_carried}
use Rattle.tap_history.specs.StepAsks.{is_start}
use Rattle.tap_runs.specs.Course.{is_choice}
use Rattle.tap_runs.specs.Groups.{step_group}
use Rattle.tap_engine.specs.Kinds.{damages, observes}
use Rattle.tap_engine.specs.Outcome.{MayGoOn, WorldOutcome, adds_within, unless_stopped}
use Rattle.tap_engine.specs.World.{WorldValue}
use Rattle.tap_replay.specs.declared.steps.Call.{Call}
use Rattle.tap_replay.specs.declared.steps.Call.TheVariants.{Garble, Observe, Start}

-- The world may run a step: it goes on, its log isn't carried, and no more frames were sent than may be.
pub record MayRun (w : WorldValue) : Type 0 where
  pub goes_on : MayGoOn w
  pub runs : w.stopped ≡ false
  pub uncarried : is_carried w.log ≡ false
  pub few : sent_count w.log ≤ w.beginning.frames

-- by this call a world adds the group of the step; by none if the step only chooses what is taken next
abbrev pub IsCallOf : Step → Option Call → Type 0
IsCallOf step None = is_choice step ≡ true
IsCallOf step (Some Start) = is_start step ≡ true
IsCallOf step (Some Observe) = observes step ≡ true
IsCallOf step (Some Garble) = damages step ≡ true

-- The group of a step is added, its refusal with it; or the step alone, and then `Spent`, if too many frames would be sent.
abbrev pub run_outcome : WorldValue → ℕ → Step → WorldOutcome
run_outcome w index step = unless_stopped w (adds_within w (StepRecord index step ∷ []) (step_group w.beginning.settings w.log index step))
