-- The laws of replays: their logs are those of runs of the scenario, and a scenario has one replay.
use Rattle.std.specs.Prelude.{◌≡◌, ◌≢◌, false, List}
use Rattle.tap_scenario.specs.Scenario.{IsScript, ScenarioValue}
use Rattle.tap_log.specs.declared.record.Record.{Record}
use Rattle.tap_lawful.specs.Lawful.{IsUncarriedLogOf, IsWholeUncarriedLogOf}
use Rattle.tap_lawful.specs.Runs.{IsLawful}
use Rattle.tap_lawful.specs.CarriedRuns.{IsCarriedLogOf, IsCarriedScript, IsWholeCarriedLogOf}
use Rattle.tap_replay.specs.CarriedPlayer.{HasCarriedEnded}
use Rattle.tap_replay.specs.Player.{HasEnded}
use Rattle.tap_replay.specs.declared.end.End.{End}
use Rattle.tap_replay.specs.declared.end.End.TheVariants.{NoMemory}

-- the runs have ended alike, with one log
pub record AreOneRun (end other : End) (log more : List Record) : Type 0 where
  pub end_is : end ≡ other
  pub log_is : log ≡ more

-- A run that has ended leaves the log of a run of the scenario, and a whole one unless memory was refused. It is lawful if the scenario is within
-- its limits. Two runs for which there was memory enough end alike, with one log.
pub record RunsAreLawful : Type 0 where
  pub log : (s : ScenarioValue) (end : End) (log : List Record) → HasEnded s end log → IsUncarriedLogOf s log
  pub whole : (s : ScenarioValue) (end : End) (log : List Record) → HasEnded s end log → end ≢ NoMemory → IsWholeUncarriedLogOf s log
  pub lawful : (s : ScenarioValue) (end : End) (log : List Record) → IsScript s → s.carrier ≡ false → HasEnded s end log → IsLawful log
  pub one : (s : ScenarioValue) (end other : End) (log more : List Record) → HasEnded s end log → HasEnded s other more
      → end ≢ NoMemory → other ≢ NoMemory → AreOneRun end other log more

-- The same of carried runs.
pub record CarriedRunsAreLawful : Type 0 where
  pub log : (s : ScenarioValue) (end : End) (log : List Record) → HasCarriedEnded s end log → IsCarriedLogOf s log
  pub whole : (s : ScenarioValue) (end : End) (log : List Record) → HasCarriedEnded s end log → end ≢ NoMemory → IsWholeCarriedLogOf s log
  pub lawful : (s : ScenarioValue) (end : End) (log : List Record) → IsCarriedScript s → HasCarriedEnded s end log
      → IsLawful log
  pub one : (s : ScenarioValue) (end other : End) (log more : List Record) → HasCarriedEnded s end log → HasCarriedEnded s other more
      → end ≢ NoMemory → other ≢ NoMemory → AreOneRun end other log more
