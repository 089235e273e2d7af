-- What the top call promises of its log.
use Rattle.std.specs.Prelude.{◌≡◌, Bool, false, List, Option, Some}
use Rattle.std.specs.Option.{option_map_or}
use Rattle.tap_io.specs.Source.{SourceState}
use Rattle.tap_scenario.specs.Scenario.{IsScript, ScenarioValue}
use Rattle.tap_log.specs.declared.record.Record.{Record}
use Rattle.tap_log.specs.Log.{last_of}
use Rattle.tap_history.specs.Groups.{is_spent}
use Rattle.tap_engine.specs.World.{WorldValue, whole_log}
use Rattle.tap_lawful.specs.Runs.{IsRunLog}
use Rattle.tap_headline.specs.LastRecord.{HasAllSteps}
use Rattle.tap_headline.specs.Runs.{FollowsScenario, HasHeadlineBy}
use Rattle.tap_bounds_runs.specs.Enough.{AsksForJoinsAlone, HasEnoughFrames}
use Rattle.tap_replay.specs.Runs.{LeavesWorld}
use Rattle.tap_replay.specs.declared.end.End.TheVariants.{Done, Spent}
use Rattle.tap_words.specs.declared.asked.Asked.{Asked}
use Rattle.tap_top.specs.Wanted.{IsWanted}

-- The scenario that the words ask for was had, and the log is that of its run, however far it has come and however it has ended: it is lawful, it
-- begins as the scenario does, its steps are the scenario's first ones, and it has the headline, at each of its moments.
pub record IsLogAsked (asked : Asked) (old new : SourceState) (log : List Record) : Type 0 where
  pub script : ScenarioValue
  pub valid : IsScript script
  pub wanted : IsWanted asked old new script
  pub run : IsRunLog script log
  pub follows : FollowsScenario script log
  pub headline : HasHeadlineBy script log

-- The scenario that the words ask for was had, and every step of it was run: its run has left a world, which it has not stopped.
pub record HasRunAll (asked : Asked) (old new : SourceState) (world : Option WorldValue) : Type 0 where
  pub script : ScenarioValue
  pub valid : IsScript script
  pub wanted : IsWanted asked old new script
  pub left : WorldValue
  pub world_is : world ≡ Some left
  pub run : LeavesWorld script Done left
  pub steps : HasAllSteps script (whole_log left)

-- The scenario that the words ask for was had, and its run has left a world, which it has stopped, since more frames would have been sent than
-- may be. So the scenario starts more than joins, or its limit isn't enough for as many joins among as many names.
pub record HasRunShort (asked : Asked) (old new : SourceState) (world : Option WorldValue) : Type 0 where
  pub script : ScenarioValue
  pub valid : IsScript script
  pub wanted : IsWanted asked old new script
  pub left : WorldValue
  pub world_is : world ≡ Some left
  pub run : LeavesWorld script Spent left
  pub short : AsksForJoinsAlone script → HasEnoughFrames script → ⊥

-- the log ends with `Spent`
abbrev pub ends_spent : List Record → Bool
ends_spent log = option_map_or is_spent (last_of log) false
