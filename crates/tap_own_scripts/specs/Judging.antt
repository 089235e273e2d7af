-- Which logs are refused, and at which record.
use Rattle.std.specs.Prelude.{◌≡◌, ◌⊎◌, ℕ, ◌+◌, ◌-◌, ◌<◌, ◌≤◌, true, false, List, length, take}
use Rattle.tap_scenario.specs.Scenario.{IsScript, ScenarioValue}
use Rattle.tap_log.specs.declared.record.Record.{Record}
use Rattle.tap_lawful.specs.PlayedLaws.{BeginsWith}
use Rattle.tap_lawful.specs.Runs.{IsLawful, IsRunLog, IsRunSoFar, IsSpentBy, IsWholeRunLog}
use Rattle.tap_own_scripts.specs.Own.{own_script}
use Rattle.tap_own_scripts.specs.OwnLaws.{BeginsLawful}
use Rattle.tap_own_scripts.specs.Stops.{GroupComes}

-- The log isn't lawful. Its first k - 1 records begin a lawful log; and its first k begin none, or k is one more than all.
pub record IsUnlawful (log : List Record) (k : ℕ) : Type 0 where
  pub refused : IsLawful log → ⊥
  pub from : 1 ≤ k
  pub before : BeginsLawful (take (k - 1) log)
  pub first : (BeginsLawful (take k log) → ⊥) ⊎ (k ≡ length log + 1)

-- ---- a log beside that of a run

-- this log and that of a run are the same for so many records, and then there is another one in each
pub record DifferAt (run log : List Record) (same : ℕ) : Type 0 where
  pub here : same < length run
  pub there : same < length log
  pub alike : take same log ≡ take same run
  pub apart : take (same + 1) log ≡ take (same + 1) run → ⊥

-- the log begins with the records before, and has more; and the records after begin with it, and are more
pub record StandsBetween (before after log : List Record) : Type 0 where
  pub begins : BeginsWith before log
  pub longer : length before < length log
  pub goes_on : BeginsWith log after
  pub shorter : length log < length after

-- what comes next in a run: a group; or, if that would send too many frames, what then stands
abbrev pub ComesOrSpends : ScenarioValue → List Record → List Record → Type 0
ComesOrSpends s before after = GroupComes s before after ⊎ IsSpentBy s.carrier s before after

-- ---- the laws

-- A log is refused at one record at most. It is lawful if it is one of its own scenario. It is refused where it first differs from such a log, and
-- where it goes on after a whole one. If it stops within what comes next, it is lawful if it is carried, and else refused after its last record.
pub record Judges : Type 0 where
  pub one : (log : List Record) (k other : ℕ) → IsUnlawful log k → IsUnlawful log other → k ≡ other
  pub lawful : (log : List Record) → IsScript (own_script log) → IsRunLog (own_script log) log → IsLawful log
  pub differ : (run log : List Record) (same : ℕ) → IsScript (own_script log) → IsRunLog (own_script log) run → DifferAt run log same
      → IsUnlawful log (same + 1)
  pub goes_past : (run log : List Record) → IsScript (own_script log) → IsWholeRunLog (own_script log) run → BeginsWith run log
      → length run < length log → IsUnlawful log (length run + 1)
  pub within : (before after log : List Record) → IsScript (own_script log) → (own_script log).carrier ≡ false
      → IsRunSoFar (own_script log) before → ComesOrSpends (own_script log) before after → StandsBetween before after log
      → IsUnlawful log (length log + 1)
  pub cut : (before after log : List Record) → IsScript (own_script log) → (own_script log).carrier ≡ true
      → IsRunSoFar (own_script log) before → ComesOrSpends (own_script log) before after → StandsBetween before after log
      → IsLawful log
