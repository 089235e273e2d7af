-- The laws of the runs of a scenario, carried or not: how a log grows and begins, and that a scenario has one.
use Rattle.std.specs.Prelude.{◌≡◌, ◌⊎◌, ◌<◌, ◌≤◌, ℕ, Bool, true, false, List, ◌++◌, take, None, Some}
use Rattle.tap_scenario.specs.Scenario.{IsScript, ScenarioValue}
use Rattle.tap_log.specs.declared.record.Record.{Record}
use Rattle.tap_log.specs.Counts.{sent_count}
use Rattle.tap_log.specs.Log.{begun_steps}
use Rattle.tap_log.specs.Reduced.{reduced}
use Rattle.tap_carried.specs.LogTurns.{beginning_records}
use Rattle.tap_lawful.specs.CarriedLaws.{measure_of}
use Rattle.tap_lawful.specs.Next.{beginning_in, begun_count}
use Rattle.tap_lawful.specs.PlayedLaws.{BeginsAlike, BeginsWith, left_of}
use Rattle.tap_lawful.specs.Runs.{BeginsAsScenario, IsRunLog, IsRunSoFar, IsWholeRunLog, next_records}

-- a measure of what is left of a run, carried or not
abbrev pub left_to_run : Bool → ScenarioValue → List Record → ℕ
left_to_run true s log = measure_of s log
left_to_run false s log = left_of s (reduced log)

-- of a run of the scenario
abbrev pub left_in : ScenarioValue → List Record → ℕ
left_in s log = left_to_run s.carrier s log

-- A run begins with its beginning alone. With the group that comes next its log is that of a run again, and less is left of it, unless more
-- frames would be sent than may be. Its steps are the scenario's first ones, and all of them if no group comes next. It is the log of a run of
-- each scenario that begins alike and is carried alike. Each log of a run begins as the scenario does. Of two one begins with the other, and two
-- whole ones are one.
pub record RunsByCarrier : Type 0 where
  pub starts : (s : ScenarioValue) → IsRunSoFar s (beginning_records s.carrier (beginning_in s))
  pub more : (s : ScenarioValue) (log group : List Record) → IsScript s → IsRunSoFar s log → next_records s log ≡ Some group
      → sent_count (log ++ group) ≤ s.frames → IsRunSoFar s (log ++ group)
  pub less : (s : ScenarioValue) (log group : List Record) → IsScript s → IsRunSoFar s log → next_records s log ≡ Some group
      → sent_count (log ++ group) ≤ s.frames → left_in s (log ++ group) < left_in s log
  pub steps : (s : ScenarioValue) (log : List Record) → IsScript s → IsRunSoFar s log → begun_steps log ≡ take (begun_count log) s.steps
  pub all : (s : ScenarioValue) (log : List Record) → IsScript s → IsRunSoFar s log → next_records s log ≡ None → begun_steps log ≡ s.steps
  pub alike : (s other : ScenarioValue) (log : List Record) → other.carrier ≡ s.carrier → IsRunSoFar s log → BeginsAlike s other log
      → IsRunSoFar other log
  pub begins : (s : ScenarioValue) (log : List Record) → IsRunLog s log → BeginsAsScenario s log
  pub first : (s : ScenarioValue) (one other : List Record) → IsRunLog s one → IsRunLog s other → BeginsWith one other ⊎ BeginsWith other one
  pub whole : (s : ScenarioValue) (one other : List Record) → IsWholeRunLog s one → IsWholeRunLog s other → one ≡ other
