-- The laws of a log's own scenario: a log from elsewhere is judged by the runs of it.
use Rattle.std.specs.Prelude.{◌≤◌, List, [], length, All}
use Rattle.tap_scenario.specs.Scenario.{IsScript, ScenarioValue, most_steps}
use Rattle.tap_scenario.specs.Step.{IsStep}
use Rattle.tap_log.specs.declared.record.Record.{Record}
use Rattle.tap_log.specs.Log.{begun_steps}
use Rattle.tap_lawful.specs.PlayedLaws.{BeginsWith}
use Rattle.tap_lawful.specs.Runs.{IsLawful, IsRunLog}
use Rattle.tap_own_scripts.specs.Own.{own_script}

-- these records begin a lawful log
pub record BeginsLawful (first : List Record) : Type 0 where
  pub log : List Record
  pub lawful : IsLawful log
  pub begins : BeginsWith first log

-- these records begin a log of a run of the scenario
pub record BeginsLogOf (s : ScenarioValue) (first : List Record) : Type 0 where
  pub log : List Record
  pub run : IsRunLog s log
  pub begins : BeginsWith first log

-- a scenario before its first step
abbrev pub without_steps : ScenarioValue → ScenarioValue
without_steps s = record { settings = s.settings; frames = s.frames; carrier = s.carrier; members = s.members; steps = [] }

-- The log begins as a scenario within its limits does. The steps that it begins are few enough, and each may stand in that scenario.
pub record TellsScript (log : List Record) : Type 0 where
  pub beginning : IsScript (without_steps (own_script log))
  pub few : length (begun_steps log) ≤ most_steps
  pub steps : All (IsStep (own_script log).settings (own_script log).carrier) (begun_steps log)

-- A lawful log is one of its own scenario, which is within its limits. If the first records of any log begin a lawful one, they begin a log
-- of that log's own scenario. The own scenario of a log that tells one is within its limits.
pub record OwnScripts : Type 0 where
  pub own : (log : List Record) → IsLawful log → IsRunLog (own_script log) log
  pub valid : (log : List Record) → IsLawful log → IsScript (own_script log)
  pub carries : (first log : List Record) → BeginsWith first log → BeginsLawful first → BeginsLogOf (own_script log) first
  pub told : (log : List Record) → TellsScript log → IsScript (own_script log)
