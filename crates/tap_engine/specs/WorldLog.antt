-- What the log of a world is: the course of a run, and what stands after that.
--
-- Rule: docs/FORMATS.md, "The course of a run".
use Rattle.std.specs.Prelude.{◌≡◌, ◌≤◌, ◌⊎◌, ℕ, Bool, true, false, List, [], ◌∷◌, ◌++◌, length, Option, None, Some}
use Rattle.tap_scenario.specs.declared.step.Step.{Step}
use Rattle.tap_log.specs.declared.record.Record.{Record}
use Rattle.tap_log.specs.declared.record.Record.TheVariants.{Step as StepRecord, Spent, Finished}
use Rattle.tap_log.specs.declared.record.Refusal.{Refusal}
use Rattle.tap_log.specs.Log.{begun_steps}
use Rattle.tap_history.specs.Groups.{is_ended}
use Rattle.tap_history.specs.Moments.{has_number, outstanding}
use Rattle.tap_history.specs.Refusals.{first_refusal}
use Rattle.tap_history.specs.StepAsks.{is_start}
use Rattle.tap_runs.specs.Beginning.{Beginning}
use Rattle.tap_runs.specs.Course.{IsCourse, is_choice}
use Rattle.tap_engine.specs.Kinds.{begun_indices, last_index, most_index}
use Rattle.tap_engine.specs.Outcome.{is_within}
use Rattle.tap_runs.specs.Groups.{step_group, taken_group}
use Rattle.tap_engine.specs.World.{WorldValue}

-- after the course the step stands alone that is refused so, and its refusal isn't noted yet
pub record IsPending (course : List Record) (refusal : Refusal) (log : List Record) : Type 0 where
  pub index : ℕ
  pub step : Step
  pub log_is : log ≡ course ++ StepRecord index step ∷ []
  pub refused : first_refusal course step ≡ Some refusal
  pub no_choice : is_choice step ≡ false

-- the log of a world that goes on, or has finished: a course, and then nothing or how many steps were run
abbrev pub IsCourseOrFinished : List Record → List Record → Type 0
IsCourseOrFinished course log = (log ≡ course) ⊎ (log ≡ course ++ Finished (length (begun_steps course)) ∷ [])

abbrev pub HasCome : List Record → Option Refusal → List Record → Type 0
HasCome course None log = IsCourseOrFinished course log
HasCome course (Some refusal) log = IsPending course refusal log

-- a frame of this number is outstanding, and its step would send more frames than may be sent
pub record TakesTooMany (b : Beginning) (course log : List Record) : Type 0 where
  pub number : ℕ
  pub waits : has_number (outstanding course) number ≡ true
  pub over : is_within b course (taken_group b.settings course number) ≡ false
  pub log_is : log ≡ course ++ Spent b.frames ∷ []

-- a start that isn't refused would
pub record StartsTooMany (b : Beginning) (course log : List Record) : Type 0 where
  pub index : ℕ
  pub step : Step
  pub starts : is_start step ≡ true
  pub accepted : first_refusal course step ≡ None
  pub over : is_within b course (step_group b.settings course index step) ≡ false
  pub log_is : log ≡ course ++ StepRecord index step ∷ Spent b.frames ∷ []

-- the log of a world that was stopped: a course, and then nothing if memory was refused, and `Spent` if too many frames would have
-- been sent, after the step alone if that was a start
abbrev pub HasStopped : Beginning → List Record → List Record → Type 0
HasStopped b course log = (log ≡ course) ⊎ (TakesTooMany b course log ⊎ StartsTooMany b course log)

-- by whether the world was stopped, and the refusal that isn't noted yet
abbrev pub HasGoneTo : Beginning → Bool → Option Refusal → List Record → List Record → Type 0
HasGoneTo b false refused course log = HasCome course refused log
HasGoneTo b true None course log = HasStopped b course log
HasGoneTo b true (Some refusal) course log = ⊥

-- no more steps have begun than the last index says, which is 1,000,000 at most
pub record HasIndices (log : List Record) : Type 0 where
  pub count : length (begun_indices log) ≤ last_index log
  pub most : last_index log ≤ most_index

-- The log of a world, up to its last moment, is a course, and what stands after that is as the world has gone.
pub record IsWorldLog (w : WorldValue) : Type 0 where
  pub course : List Record
  pub is_course : IsCourse w.beginning course
  pub open_end : is_ended course ≡ false
  pub gone_to : HasGoneTo w.beginning w.stopped w.refused course w.log
  pub indices : HasIndices w.log
