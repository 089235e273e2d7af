-- What a replay leaves.
--
-- Rule: docs/FORMATS.md, "The ways a run ends".
use Rattle.std.specs.Prelude.{◌≡◌, MatchOption}
use Rattle.tap_scenario.specs.Scenario.{ScenarioValue}
use Rattle.tap_replay.specs.Runs.{LeavesWorld}
use Rattle.tap_replay.specs.declared.end.End.TheVariants.{NoMemory}
use Rattle.tap_replay.specs.declared.whole.Played.{Played}

-- There is no world only if memory was refused. If there is one, it is what the run of the scenario leaves that has ended so.
abbrev pub IsReplay : ScenarioValue → Played → Type 0
IsReplay s played = MatchOption played.world (played.end ≡ NoMemory) (LeavesWorld s played.end)
