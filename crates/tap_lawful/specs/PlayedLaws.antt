-- The laws of lawful logs: how the log of a run grows, that it is a course, and that a scenario has one log.
use Rattle.std.specs.Prelude.{◌≡◌, ◌⊎◌, ℕ, ◌+◌, ◌-◌, ◌*◌, ◌<◌, ◌≤◌, List, [], ◌∷◌, ◌++◌, length, take, Option, None, Some}
use Rattle.std.specs.List.{filter_map, range_with_len}
use Rattle.tap_scenario.specs.Scenario.{IsScript, ScenarioValue}
use Rattle.tap_log.specs.declared.record.Record.{Record}
use Rattle.tap_log.specs.declared.record.Record.TheVariants.{Step as StepRecord}
use Rattle.tap_log.specs.Counts.{sent_count}
use Rattle.tap_log.specs.Log.{begun_steps}
use Rattle.tap_history.specs.Moments.{outstanding}
use Rattle.tap_runs.specs.Beginning.{begin_record}
use Rattle.tap_runs.specs.Course.{IsCourse}
use Rattle.tap_lawful.specs.Next.{beginning_in, begun_count, next_group}
use Rattle.tap_lawful.specs.Lawful.{IsLogOf, IsPlayed, IsWholeLogOf}

-- ---- how the log of a run grows

-- A measure of what is left of a run: the steps that weren't begun, twice the frames that may still be sent, and those outstanding.
abbrev pub left_of : ScenarioValue → List Record → ℕ
left_of s log = (length s.steps - begun_count log) + (2 * (s.frames - sent_count log) + length (outstanding log))

-- the index of a step that is begun
unfoldable pub index_of : Record → Option ℕ
index_of (StepRecord index step) = Some index
index_of other = None

-- the other scenario begins so too, and its first steps are those that the log has begun
pub record BeginsAlike (s other : ScenarioValue) (log : List Record) : Type 0 where
  pub beginning : beginning_in other ≡ beginning_in s
  pub steps : take (begun_count log) other.steps ≡ begun_steps log

-- A run begins with the beginning alone. With the group that comes next its log is that of a run again, unless more frames would be
-- sent than may be, and less is left of the run. It is a course. Its steps are the scenario's first ones, numbered from 1, and all
-- of them if no group comes next. It is the log of a run of each scenario that begins alike.
pub record PlayedGrows : Type 0 where
  pub starts : (s : ScenarioValue) → IsScript s → IsPlayed s (begin_record (beginning_in s) ∷ [])
  pub more : (s : ScenarioValue) (log group : List Record) → IsPlayed s log → next_group s log ≡ Some group
      → sent_count (log ++ group) ≤ s.frames → IsPlayed s (log ++ group)
  pub less : (s : ScenarioValue) (log group : List Record) → next_group s log ≡ Some group → sent_count (log ++ group) ≤ s.frames
      → left_of s (log ++ group) < left_of s log
  pub course : (s : ScenarioValue) (log : List Record) → IsScript s → IsPlayed s log → IsCourse (beginning_in s) log
  pub steps : (s : ScenarioValue) (log : List Record) → IsPlayed s log → begun_steps log ≡ take (begun_count log) s.steps
  pub indices : (s : ScenarioValue) (log : List Record) → IsPlayed s log
      → filter_map index_of log ≡ range_with_len 1 (begun_count log)
  pub all : (s : ScenarioValue) (log : List Record) → IsPlayed s log → next_group s log ≡ None → begun_steps log ≡ s.steps
  pub alike : (s other : ScenarioValue) (log : List Record) → IsPlayed s log → BeginsAlike s other log → IsPlayed other log

-- ---- one log

-- the log begins with these records
abbrev pub BeginsWith : List Record → List Record → Type 0
BeginsWith first log = take (length first) log ≡ first

-- Of two logs of runs of a scenario one begins with the other, and two whole ones are one.
pub record OneLog : Type 0 where
  pub first : (s : ScenarioValue) (one other : List Record) → IsLogOf s one → IsLogOf s other
      → BeginsWith one other ⊎ BeginsWith other one
  pub whole : (s : ScenarioValue) (one other : List Record) → IsWholeLogOf s one → IsWholeLogOf s other → one ≡ other
