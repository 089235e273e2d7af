-- The runs of a scenario, carried or not: which group comes next, how far a log has come, and lawful logs.
--
-- Rule: docs/FORMATS.md, "What comes next" and "The ways a run ends".
use Rattle.std.specs.Prelude.{◌≡◌, ◌⊎◌, Bool, true, false, List, Option}
use Rattle.tap_scenario.specs.Scenario.{IsScript, ScenarioValue}
use Rattle.tap_log.specs.declared.record.Record.{Record}
use Rattle.tap_history.specs.Groups.{beginning_of}
use Rattle.tap_carried.specs.LogTurns.{beginning_records}
use Rattle.tap_lawful.specs.CarriedNext.{carried_next_group}
use Rattle.tap_lawful.specs.CarriedRuns.{IsCarriedCut, IsCarriedFinished, IsCarriedLogOf, IsCarriedPlayed, IsCarriedSpent, IsWholeCarriedLogOf}
use Rattle.tap_lawful.specs.Lawful.{IsUncarriedFinished, IsUncarriedLogOf, IsUncarriedPlayed, IsUncarriedSpent, IsWholeUncarriedLogOf}
use Rattle.tap_lawful.specs.Next.{beginning_in, uncarried_next_group}

-- ---- carried or not

-- the group that comes next
abbrev pub comes_next : Bool → ScenarioValue → List Record → Option (List Record)
comes_next true s log = carried_next_group s log
comes_next false s log = uncarried_next_group s log

-- the log of a run that isn't over
abbrev pub IsPlayedBy : Bool → ScenarioValue → List Record → Type 0
IsPlayedBy true s log = IsCarriedPlayed s log
IsPlayedBy false s log = IsUncarriedPlayed s log

-- that log, with what is added once all steps were run
abbrev pub IsFinishedBy : Bool → ScenarioValue → List Record → List Record → Type 0
IsFinishedBy true s played log = IsCarriedFinished s played log
IsFinishedBy false s played log = IsUncarriedFinished s played log

-- that log, with what is added if too many frames would be sent
abbrev pub IsSpentBy : Bool → ScenarioValue → List Record → List Record → Type 0
IsSpentBy true s played log = IsCarriedSpent s played log
IsSpentBy false s played log = IsUncarriedSpent s played log

-- That log, with what is left if memory runs out: nothing is added, but in a carried run some records of the next group may stand.
abbrev pub IsStoppedBy : Bool → ScenarioValue → List Record → List Record → Type 0
IsStoppedBy true s played log = (log ≡ played) ⊎ IsCarriedCut s played log
IsStoppedBy false s played log = log ≡ played

-- the log of a run, however far it has come and however it has ended
abbrev pub IsLogBy : Bool → ScenarioValue → List Record → Type 0
IsLogBy true s log = IsCarriedLogOf s log
IsLogBy false s log = IsUncarriedLogOf s log

-- the whole log of a run
abbrev pub IsWholeLogBy : Bool → ScenarioValue → List Record → Type 0
IsWholeLogBy true s log = IsWholeCarriedLogOf s log
IsWholeLogBy false s log = IsWholeUncarriedLogOf s log

-- ---- the runs of a scenario are carried exactly if it is

-- the group that comes next
abbrev pub next_records : ScenarioValue → List Record → Option (List Record)
next_records s log = comes_next s.carrier s log

-- the log of a run that isn't over
abbrev pub IsRunSoFar : ScenarioValue → List Record → Type 0
IsRunSoFar s log = IsPlayedBy s.carrier s log

-- the log of a run, however far it has come and however it has ended
abbrev pub IsRunLog : ScenarioValue → List Record → Type 0
IsRunLog s log = IsLogBy s.carrier s log

-- the whole log of a run
abbrev pub IsWholeRunLog : ScenarioValue → List Record → Type 0
IsWholeRunLog s log = IsWholeLogBy s.carrier s log

-- the log begins as the scenario does: with `Begin`, and then `Carrier` if it is carried
abbrev pub BeginsAsScenario : ScenarioValue → List Record → Type 0
BeginsAsScenario s log = beginning_of log ≡ beginning_records s.carrier (beginning_in s)

-- ---- lawful logs

-- The log is lawful: it is that of a run of some scenario.
pub record IsLawful (log : List Record) : Type 0 where
  pub script : ScenarioValue
  pub valid : IsScript script
  pub run : IsRunLog script log
