-- The laws of carried runs: that their reduced logs are those of runs, and how far they go.
use Rattle.std.specs.Prelude.{◌≡◌, ◌⊎◌, ℕ, ◌+◌, ◌*◌, ◌<◌, ◌≤◌, true, List, ◌++◌, length, take, None, Some}
use Rattle.std.specs.List.{filter_map, range_with_len}
use Rattle.tap_scenario.specs.Scenario.{ScenarioValue}
use Rattle.tap_log.specs.declared.record.Record.{Record}
use Rattle.tap_log.specs.Counts.{packet_count, sent_count}
use Rattle.tap_log.specs.Log.{EachRecord, begun_steps}
use Rattle.tap_history.specs.Groups.{groups_of}
use Rattle.tap_history.specs.Moments.{is_moment}
use Rattle.tap_packets.specs.Bounds.{MayMove, clock_of, counts_of, measure, most_made}
use Rattle.tap_packets.specs.Groups.{CarrierMove, group_of}
use Rattle.tap_packets.specs.MayCome.{MayCome}
use Rattle.tap_carried.specs.LogTurns.{IsLogOfTurns, beginning_records}
use Rattle.tap_carried.specs.ReducedRuns.{IsRunOfTurns, ReducesToRun}
use Rattle.tap_lawful.specs.CarriedNext.{carried_next_group}
use Rattle.tap_lawful.specs.CarriedRuns.{IsCarriedCut, IsCarriedLogOf, IsCarriedPlayed, IsCarriedScript, IsWholeCarriedLogOf}
use Rattle.tap_lawful.specs.Next.{beginning_in, begun_count}
use Rattle.tap_lawful.specs.PlayedLaws.{BeginsAlike, BeginsWith, index_of}

-- The log of a carried run is one of turns that may follow. So it and its reduced log agree, and its reduced log is that of a run; and so
-- it is at each of its moments.
pub record CarriedRunsReduce : Type 0 where
  pub run : (s : ScenarioValue) (log : List Record) → IsCarriedScript s → IsCarriedPlayed s log → IsRunOfTurns true (beginning_in s) log
  pub reduces : (s : ScenarioValue) (log : List Record) → IsCarriedScript s → IsCarriedPlayed s log → ReducesToRun (beginning_in s) log
  pub turns_at : (s : ScenarioValue) (log : List Record) (m : ℕ) → IsCarriedScript s → IsCarriedPlayed s log → is_moment log m ≡ true
      → IsLogOfTurns true (take m log)
  pub reduces_at : (s : ScenarioValue) (log : List Record) (m : ℕ) → IsCarriedScript s → IsCarriedPlayed s log → is_moment log m ≡ true
      → ReducesToRun (beginning_in s) (take m log)

-- the group that comes next is that of a move which may come in the run
pub record IsNextMove (s : ScenarioValue) (log group : List Record) : Type 0 where
  pub move : CarrierMove
  pub is : group_of log move ≡ group
  pub may : MayMove (length s.steps) s.frames log move

-- a measure of what is left of a carried run
abbrev pub measure_of : ScenarioValue → List Record → ℕ
measure_of s log = measure s.frames (clock_of (length s.steps) log) (counts_of log)

-- Each group that comes next in a carried run is that of a move which may come. So each record may come after those before it, the measure
-- falls with each group, few packets are made, and there are few groups.
pub record CarriedGroupsMove : Type 0 where
  pub next : (s : ScenarioValue) (log group : List Record) → IsCarriedScript s → IsCarriedPlayed s log
      → carried_next_group s log ≡ Some group → sent_count (log ++ group) ≤ s.frames → IsNextMove s log group
  pub records : (s : ScenarioValue) (log : List Record) → IsCarriedScript s → IsCarriedPlayed s log → EachRecord MayCome log
  pub falls : (s : ScenarioValue) (log group : List Record) → IsCarriedScript s → IsCarriedPlayed s log
      → carried_next_group s log ≡ Some group → sent_count (log ++ group) ≤ s.frames
      → measure_of s (log ++ group) < measure_of s log
  pub packets : (s : ScenarioValue) (log : List Record) → IsCarriedScript s → IsCarriedPlayed s log
      → packet_count log ≤ most_made s.frames (length s.steps)
  pub groups : (s : ScenarioValue) (log : List Record) → IsCarriedScript s → IsCarriedPlayed s log
      → length (groups_of log) ≤ 2 * length s.steps + 2 * packet_count log

-- ---- how the log of a carried run grows

-- A carried run begins with its beginning alone. With the group that comes next its log is that of a carried run again, unless more frames
-- would be sent than may be. Its steps are the scenario's first ones, numbered from 1, and all of them if no group comes next. It is the log
-- of a carried run of each scenario that begins alike.
pub record CarriedGrows : Type 0 where
  pub starts : (s : ScenarioValue) → IsCarriedPlayed s (beginning_records true (beginning_in s))
  pub more : (s : ScenarioValue) (log group : List Record) → IsCarriedScript s → IsCarriedPlayed s log
      → carried_next_group s log ≡ Some group → sent_count (log ++ group) ≤ s.frames → IsCarriedPlayed s (log ++ group)
  pub steps : (s : ScenarioValue) (log : List Record) → IsCarriedScript s → IsCarriedPlayed s log
      → begun_steps log ≡ take (begun_count log) s.steps
  pub indices : (s : ScenarioValue) (log : List Record) → IsCarriedScript s → IsCarriedPlayed s log
      → filter_map index_of log ≡ range_with_len 1 (begun_count log)
  pub all : (s : ScenarioValue) (log : List Record) → IsCarriedScript s → IsCarriedPlayed s log → carried_next_group s log ≡ None
      → begun_steps log ≡ s.steps
  pub alike : (s other : ScenarioValue) (log : List Record) → IsCarriedPlayed s log → BeginsAlike s other log → IsCarriedPlayed other log

-- ---- one log

-- Of two logs of carried runs of a scenario one begins with the other, and two whole ones are one. One that was cut within a group is neither that
-- of a run which isn't over, at the end of a group, nor a whole one.
pub record OneCarriedLog : Type 0 where
  pub first : (s : ScenarioValue) (one other : List Record) → IsCarriedLogOf s one → IsCarriedLogOf s other
      → BeginsWith one other ⊎ BeginsWith other one
  pub whole : (s : ScenarioValue) (one other : List Record) → IsWholeCarriedLogOf s one → IsWholeCarriedLogOf s other → one ≡ other
  pub uncut : (s : ScenarioValue) (played log : List Record) → IsCarriedPlayed s played → IsCarriedCut s played log
      → IsCarriedPlayed s log ⊎ IsWholeCarriedLogOf s log → ⊥
