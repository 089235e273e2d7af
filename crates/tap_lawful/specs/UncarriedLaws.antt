-- The laws of runs that aren't carried: that their reduced logs are those of runs without the roots of salted names.
use Rattle.std.specs.Prelude.{◌≡◌, ℕ, true, false, List, take, All}
use Rattle.tap_scenario.specs.Scenario.{IsScript, ScenarioValue}
use Rattle.tap_log.specs.declared.record.Record.{Record}
use Rattle.tap_log.specs.Reduced.{is_added, reduced}
use Rattle.tap_history.specs.Moments.{is_moment}
use Rattle.tap_carried.specs.LogTurns.{IsLogOfTurns}
use Rattle.tap_carried.specs.ReducedRuns.{IsRunOfTurns, ReducesToRun}
use Rattle.tap_lawful.specs.Lawful.{IsLogOf, IsPlayed, IsUncarriedLogOf, IsUncarriedPlayed, IsWholeLogOf, IsWholeUncarriedLogOf}
use Rattle.tap_lawful.specs.Next.{beginning_in}

-- The log of a run that isn't carried is one of turns that may follow, so it and its reduced log agree. Its reduced log is that of a run
-- without roots, however far the run has come and however it has ended. So it is at each of its moments. A log without added records is
-- its own reduced log.
pub record UncarriedRunsReduce : Type 0 where
  pub run : (s : ScenarioValue) (log : List Record) → IsScript s → IsUncarriedPlayed s log → IsRunOfTurns false (beginning_in s) log
  pub played : (s : ScenarioValue) (log : List Record) → IsScript s → IsUncarriedPlayed s log → IsPlayed s (reduced log)
  pub ended : (s : ScenarioValue) (log : List Record) → IsScript s → IsUncarriedLogOf s log → IsLogOf s (reduced log)
  pub whole : (s : ScenarioValue) (log : List Record) → IsScript s → IsWholeUncarriedLogOf s log → IsWholeLogOf s (reduced log)
  pub turns_at : (s : ScenarioValue) (log : List Record) (m : ℕ) → IsScript s → IsUncarriedPlayed s log → is_moment log m ≡ true
      → IsLogOfTurns false (take m log)
  pub reduces_at : (s : ScenarioValue) (log : List Record) (m : ℕ) → IsScript s → IsUncarriedPlayed s log → is_moment log m ≡ true
      → ReducesToRun (beginning_in s) (take m log)
  pub same : (log : List Record) → All (λ item. is_added item ≡ false) log → reduced log ≡ log
