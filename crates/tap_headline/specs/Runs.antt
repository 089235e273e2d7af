-- What holds of each log of a run, carried or not, however far the run has come and however it has ended.
--
-- Rule: docs/FORMATS.md, "What comes next", "The course of a run" and "The printed text".
use Rattle.std.specs.Prelude.{◌≡◌, IsOk, Bool, true, false, List, ◌++◌, take, All, Some}
use Rattle.tap_name.specs.Settings.{SettingsValue}
use Rattle.tap_wire.specs.Reading.{head_of}
use Rattle.tap_scenario.specs.Scenario.{IsScript, ScenarioValue}
use Rattle.tap_log.specs.declared.record.Record.{Record}
use Rattle.tap_log.specs.declared.record.Record.TheVariants.{Sent, Spent}
use Rattle.tap_log.specs.Log.{begun_steps, last_of}
use Rattle.tap_history.specs.Groups.{is_ended}
use Rattle.tap_carried.specs.LogTurns.{beginning_records}
use Rattle.tap_lawful.specs.Next.{beginning_in, begun_count}
use Rattle.tap_lawful.specs.Runs.{IsFinishedBy, IsRunLog, IsRunSoFar, IsSpentBy}
use Rattle.tap_headline.specs.Carried.{CarriedRunHasHeadline}
use Rattle.tap_headline.specs.LastRecord.{HasAllSteps}
use Rattle.tap_headline.specs.Printable.{CanBePrinted}
use Rattle.tap_headline.specs.Scripts.{RunHasHeadline}

-- ---- the headline

-- the log has the headline, that of a carried run or that of another one
abbrev pub HeadlineBy : Bool → ScenarioValue → List Record → Type 0
HeadlineBy true s log = CarriedRunHasHeadline s log
HeadlineBy false s log = RunHasHeadline s log

-- by the carrier of the scenario
abbrev pub HasHeadlineBy : ScenarioValue → List Record → Type 0
HasHeadlineBy s log = HeadlineBy s.carrier s log

abbrev pub RunLogsHaveHeadline : Type 0
RunLogsHaveHeadline = (s : ScenarioValue) (log : List Record) → IsScript s → IsRunLog s log → HasHeadlineBy s log

-- ---- the scenario

-- the log begins as the scenario does, and its steps are the scenario's first ones
pub record FollowsScenario (s : ScenarioValue) (log : List Record) : Type 0 where
  pub begins : (rest : List Record) × (log ≡ beginning_records s.carrier (beginning_in s) ++ rest)
  pub steps : begun_steps log ≡ take (begun_count log) s.steps

abbrev pub RunLogsFollow : Type 0
RunLogsFollow = (s : ScenarioValue) (log : List Record) → IsScript s → IsRunLog s log → FollowsScenario s log

-- By how a run has ended: if all steps were run, the log has them all, and says so; if too many frames would be sent, it says this.
pub record RunLogsEndSo : Type 0 where
  pub going : (s : ScenarioValue) (log : List Record) → IsRunSoFar s log → is_ended log ≡ false
  pub finished : (s : ScenarioValue) (played log : List Record) → IsScript s → IsRunSoFar s played → IsFinishedBy s.carrier s played log
      → HasAllSteps s log
  pub spent : (s : ScenarioValue) (played log : List Record) → IsRunSoFar s played → IsSpentBy s.carrier s played log
      → last_of log ≡ Some (Spent s.frames)

-- ---- the text

-- the head of a frame that is sent is read with the settings
abbrev pub HasReadHead : SettingsValue → Record → Type 0
HasReadHead p (Sent number bytes) = IsOk (head_of p bytes)
HasReadHead p other = Unit {0}

-- Each log of a run can be printed, and the head of each frame is read with the settings of the scenario.
pub record RunLogsArePrinted : Type 0 where
  pub printed : (s : ScenarioValue) (log : List Record) → IsScript s → IsRunLog s log → CanBePrinted log
  pub heads : (s : ScenarioValue) (log : List Record) → IsScript s → IsRunLog s log → All (HasReadHead s.settings) log
