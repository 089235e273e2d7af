-- What the last record of a log says of how its run has ended.
--
-- Rule: docs/FORMATS.md, "The ways a run ends".
use Rattle.std.specs.Prelude.{◌≡◌, false, List, length, Some}
use Rattle.tap_scenario.specs.Scenario.{ScenarioValue}
use Rattle.tap_log.specs.declared.record.Record.{Record}
use Rattle.tap_log.specs.declared.record.Record.TheVariants.{Spent, Finished}
use Rattle.tap_log.specs.Log.{begun_steps, last_of}
use Rattle.tap_history.specs.Groups.{is_ended}
use Rattle.tap_lawful.specs.Lawful.{IsFinished, IsPlayed, IsSpent}

-- every step of the scenario was run, and the log says how many
pub record HasAllSteps (s : ScenarioValue) (log : List Record) : Type 0 where
  pub steps : begun_steps log ≡ s.steps
  pub last : last_of log ≡ Some (Finished (length s.steps))

-- By how a run has ended: if all steps were run, the log has them all, and says so; if too many frames would be sent, it says this.
pub record LogsEndSo : Type 0 where
  pub going : (s : ScenarioValue) (log : List Record) → IsPlayed s log → is_ended log ≡ false
  pub finished : (s : ScenarioValue) (played log : List Record) → IsPlayed s played → IsFinished s played log → HasAllSteps s log
  pub spent : (s : ScenarioValue) (played log : List Record) → IsPlayed s played → IsSpent s played log
      → last_of log ≡ Some (Spent s.frames)
