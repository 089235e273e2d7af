-- The laws of where the log of a run may stop.
use Rattle.std.specs.Prelude.{◌≡◌, ◌⊎◌, ◌≤◌, List, [], ◌∷◌, ◌++◌, length, None, Some}
use Rattle.tap_scenario.specs.Scenario.{ScenarioValue}
use Rattle.tap_log.specs.declared.record.Record.{Record}
use Rattle.tap_log.specs.declared.record.Record.TheVariants.{Finished}
use Rattle.tap_log.specs.Counts.{sent_count}
use Rattle.tap_lawful.specs.PlayedLaws.{BeginsWith}
use Rattle.tap_lawful.specs.Runs.{IsFinishedBy, IsRunLog, IsRunSoFar, IsSpentBy, IsStoppedBy, IsWholeRunLog, next_records}

-- with the group that comes next no more frames are sent than may be, and these are the records
pub record GroupComes (s : ScenarioValue) (before after : List Record) : Type 0 where
  pub group : List Record
  pub comes : next_records s before ≡ Some group
  pub within : sent_count (before ++ group) ≤ s.frames
  pub is : after ≡ before ++ group

-- the log goes on with the group that comes next
pub record GoesPast (s : ScenarioValue) (before log : List Record) : Type 0 where
  pub after : List Record
  pub comes : GroupComes s before after
  pub begins : BeginsWith after log

-- What a log of a run can be that begins with these records of a run: it stops there, in a carried run also within the group that comes next;
-- or that group follows, or all steps were run, or more frames would be sent than may be. If no group comes next, it stops or all steps
-- were run. A log that begins with a whole one is it.
pub record LogsStop : Type 0 where
  pub stops : (s : ScenarioValue) (before log : List Record) → IsRunSoFar s before → IsRunLog s log → BeginsWith before log
      → IsStoppedBy s.carrier s before log
      ⊎ (GoesPast s before log ⊎ (IsFinishedBy s.carrier s before log ⊎ IsSpentBy s.carrier s before log))
  pub last : (s : ScenarioValue) (before log : List Record) → IsRunSoFar s before → IsRunLog s log → BeginsWith before log
      → next_records s before ≡ None → (log ≡ before) ⊎ (log ≡ before ++ Finished (length s.steps) ∷ [])
  pub ended : (s : ScenarioValue) (one other : List Record) → IsWholeRunLog s one → IsRunLog s other → BeginsWith one other
      → other ≡ one
