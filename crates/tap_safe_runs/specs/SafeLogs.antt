-- What holds of nodes and tables throughout each log of a run, however far the run has come and however it has ended.
--
-- Rule: docs/FORMATS.md, "The course of a run" and "The ways a run ends".
use Rattle.std.specs.Prelude.{◌≡◌, ℕ, true, List, [], ◌∷◌, ◌++◌, take, Some}
use Rattle.tap_name.specs.Settings.{SettingsValue}
use Rattle.tap_scenario.specs.Scenario.{IsScript, ScenarioValue}
use Rattle.tap_scenario.specs.declared.step.Step.{Step}
use Rattle.tap_log.specs.declared.record.Record.{Record}
use Rattle.tap_log.specs.declared.record.Record.TheVariants.{Step as StepRecord, Spent, Finished}
use Rattle.tap_log.specs.declared.record.Refusal.{Refusal}
use Rattle.tap_history.specs.Moments.{is_moment}
use Rattle.tap_history.specs.Refusals.{first_refusal}
use Rattle.tap_runs.specs.Beginning.{Beginning}
use Rattle.tap_lawful.specs.Lawful.{IsPlayed}
use Rattle.tap_safe_runs.specs.Leavers.{LeaversAreGone}
use Rattle.tap_safe_runs.specs.Moments.{HasCoreNodes, HasNoHole, RestIsAllCore, WalksEndAtRoots}
use Rattle.tap_safe_runs.specs.Safe.{IsRun}

-- this holds of the log up to each of its moments
abbrev pub AtMomentsOf : List Record → (List Record → Type 0) → Type 0
AtMomentsOf log Holds = (m : ℕ) → is_moment log m ≡ true → Holds (take m log)

-- this holds of the log of each run of a scenario that isn't over, up to each of its moments
abbrev pub OfLawfulLogs : (SettingsValue → List Record → Type 0) → Type 0
OfLawfulLogs Holds = (s : ScenarioValue) (log : List Record) → IsScript s → IsPlayed s log → AtMomentsOf log (Holds s.settings)

-- At each moment there is a core node, no core node's table has a hole that another core node could fill, each walk from a core node leads to
-- the one root of its object, and at rest each node that is present is core, and each that departed is gone.
pub record IsSafeThroughout (p : SettingsValue) (log : List Record) : Type 0 where
  pub core : AtMomentsOf log (HasCoreNodes p)
  pub hole_free : AtMomentsOf log (HasNoHole p)
  pub walks : AtMomentsOf log (WalksEndAtRoots p)
  pub rest : AtMomentsOf log (RestIsAllCore p)
  pub leavers : AtMomentsOf log (LeaversAreGone p)

-- So it is of the log of a run, and so it is still if how the run has ended stands after it: how many steps were run; or how many frames may be
-- sent, alone or after the step that would send more. So it is after a step that is refused, before its refusal stands there.
pub record EndedLogsAreSafe : Type 0 where
  pub going : (b : Beginning) (log : List Record) → IsRun b log → IsSafeThroughout b.settings log
  pub finished : (b : Beginning) (log : List Record) (steps : ℕ) → IsRun b log → IsSafeThroughout b.settings (log ++ Finished steps ∷ [])
  pub spent : (b : Beginning) (log : List Record) (limit : ℕ) → IsRun b log → IsSafeThroughout b.settings (log ++ Spent limit ∷ [])
  pub cut : (b : Beginning) (log : List Record) (index : ℕ) (step : Step) (limit : ℕ) → IsRun b log
      → IsSafeThroughout b.settings (log ++ StepRecord index step ∷ Spent limit ∷ [])
  pub refused : (b : Beginning) (log : List Record) (index : ℕ) (step : Step) (refusal : Refusal) → IsRun b log
      → first_refusal log step ≡ Some refusal → IsSafeThroughout b.settings (log ++ StepRecord index step ∷ [])
