-- How many frames are enough for a scenario in which nothing but joins is started.
--
-- Rule: docs/FORMATS.md, "The ways a run ends".
use Rattle.std.specs.Prelude.{◌≡◌, ℕ, ◌+◌, ◌≤◌, List, [], filter, length}
use Rattle.std.specs.List.{filter_map}
use Rattle.tap_scenario.specs.Scenario.{IsScript, ScenarioValue}
use Rattle.tap_log.specs.declared.record.Record.{Record}
use Rattle.tap_history.specs.StepAsks.{join_name}
use Rattle.tap_lawful.specs.Lawful.{IsFinished, IsPlayed, IsSpent, IsWholeLogOf}
use Rattle.tap_lawful.specs.Runs.{IsFinishedBy, IsRunSoFar, IsSpentBy, IsWholeRunLog}
use Rattle.tap_bounds_runs.specs.Joins.{most_of_joins, is_other_start}

-- the names that the steps of a scenario have join
abbrev pub joined_by_steps : ScenarioValue → List (List ℕ)
joined_by_steps s = filter_map join_name s.steps

-- none of its steps is a publication, a withdrawal, a lookup, a departure, an abandonment or a cast
abbrev pub AsksForJoinsAlone : ScenarioValue → Type 0
AsksForJoinsAlone s = filter is_other_start s.steps ≡ []

-- as many frames may be sent as so many joins send at most among its members and the names that join
abbrev pub HasEnoughFrames : ScenarioValue → Type 0
HasEnoughFrames s =
    most_of_joins s.settings (length (joined_by_steps s)) (length s.members + length (joined_by_steps s)) ≤ s.frames

-- Then no run of the scenario is over because more frames would be sent than may be.
abbrev pub NeverSpent : Type 0
NeverSpent = (s : ScenarioValue) (played log : List Record) → IsScript s → AsksForJoinsAlone s → HasEnoughFrames s → IsPlayed s played
    → IsSpent s played log → ⊥

-- So it is of each run, carried or not as the scenario is.
abbrev pub RunsAreNeverSpent : Type 0
RunsAreNeverSpent = (s : ScenarioValue) (played log : List Record) → IsScript s → AsksForJoinsAlone s → HasEnoughFrames s
    → IsRunSoFar s played → IsSpentBy s.carrier s played log → ⊥

-- all steps of the scenario were run, as the log says
pub record IsRunToItsEnd (s : ScenarioValue) (log : List Record) : Type 0 where
  pub played : List Record
  pub is_played : IsPlayed s played
  pub finished : IsFinished s played log

-- So its whole log says that all its steps were run.
abbrev pub EndsFinished : Type 0
EndsFinished = (s : ScenarioValue) (log : List Record) → IsScript s → AsksForJoinsAlone s → HasEnoughFrames s → IsWholeLogOf s log
    → IsRunToItsEnd s log

-- the same, carried or not as the scenario is
pub record HasRunToItsEnd (s : ScenarioValue) (log : List Record) : Type 0 where
  pub played : List Record
  pub is_played : IsRunSoFar s played
  pub finished : IsFinishedBy s.carrier s played log

abbrev pub RunsEndFinished : Type 0
RunsEndFinished = (s : ScenarioValue) (log : List Record) → IsScript s → AsksForJoinsAlone s → HasEnoughFrames s → IsWholeRunLog s log
    → HasRunToItsEnd s log
