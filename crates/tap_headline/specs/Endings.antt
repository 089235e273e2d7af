-- How the log of a run ends, and that this changes nothing.
--
-- Rule: docs/FORMATS.md, "The ways a run ends".
use Rattle.std.specs.Prelude.{◌≡◌, List, [], ◌∷◌, ◌++◌, filter, Some}
use Rattle.tap_scenario.specs.declared.step.Step.{Step}
use Rattle.tap_log.specs.declared.record.Record.{Record}
use Rattle.tap_log.specs.declared.record.Record.TheVariants.{Step as StepRecord, Spent, Finished}
use Rattle.tap_log.specs.declared.record.Refusal.{Refusal}
use Rattle.tap_history.specs.Core.{abandoned_of, accepted_steps, core_of, gone_of, present_of}
use Rattle.tap_history.specs.Departing.{departing_of}
use Rattle.tap_history.specs.Moments.{outstanding}
use Rattle.tap_history.specs.Names.{names_of}
use Rattle.tap_history.specs.Published.{published_of}
use Rattle.tap_history.specs.Refusals.{first_refusal}
use Rattle.tap_history.specs.StepAsks.{is_start}
use Rattle.tap_runs.specs.Beginning.{Beginning}
use Rattle.tap_runs.specs.Course.{system_of}
use Rattle.tap_safe_runs.specs.Safe.{IsRun}

-- the step is refused after this log
pub record IsRefusedAfter (log : List Record) (step : Step) : Type 0 where
  pub refusal : Refusal
  pub is : first_refusal log step ≡ Some refusal

-- These records may end this log: how many steps were run; how many frames may be sent, alone or after the step that would send more; or a
-- step that is refused, before its refusal stands there.
unfoldable pub MayEnd : List Record → List Record → Type 0
MayEnd log (Finished steps ∷ []) = Unit {0}
MayEnd log (Spent limit ∷ []) = Unit {0}
MayEnd log (StepRecord index step ∷ Spent limit ∷ []) = Unit {0}
MayEnd log (StepRecord index step ∷ []) = IsRefusedAfter log step
MayEnd log other = ⊥

-- With these records after it the log has come to the same system; it says the same of who is core, present, to give up joining and gone, who was
-- ever there and who departs, of the pairs that are published and of the frames that are outstanding; and it accepts the same starts.
pub record ChangesNothing (log ending : List Record) : Type 0 where
  pub system : system_of (log ++ ending) ≡ system_of log
  pub core : core_of (log ++ ending) ≡ core_of log
  pub present : present_of (log ++ ending) ≡ present_of log
  pub abandoned : abandoned_of (log ++ ending) ≡ abandoned_of log
  pub gone : gone_of (log ++ ending) ≡ gone_of log
  pub names : names_of (log ++ ending) ≡ names_of log
  pub departing : departing_of (log ++ ending) ≡ departing_of log
  pub published : published_of (log ++ ending) ≡ published_of log
  pub frames : outstanding (log ++ ending) ≡ outstanding log
  pub starts : filter is_start (accepted_steps (log ++ ending)) ≡ filter is_start (accepted_steps log)

abbrev pub EndingsChangeNothing : Type 0
EndingsChangeNothing = (b : Beginning) (log ending : List Record) → IsRun b log → MayEnd log ending → ChangesNothing log ending
