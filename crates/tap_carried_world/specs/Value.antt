-- What contracts see of a world with its carrier, and when both run a scenario.
--
-- Rule: docs/PROTOCOL.md, "Packets".
use Rattle.std.specs.Prelude.{◌≡◌, false, None}
use Rattle.tap_scenario.specs.Scenario.{ScenarioValue}
use Rattle.tap_engine.specs.World.{WorldValue, whole_log}
use Rattle.tap_carrier.specs.Carrier.{CarrierValue}
pub use Rattle.tap_carrier.specs.Kept.{KeepsLog}
use Rattle.tap_lawful.specs.CarriedRuns.{IsCarriedPlayed, IsCarriedScript}
use Rattle.tap_lawful.specs.Next.{beginning_in}

-- a world, and the carrier of its frames
pub record CarriedValue : Type 0 where
  pub world : WorldValue
  pub carrier : CarrierValue

-- the world goes on, and its whole log is that of a carried run of the scenario which isn't over
pub record CarriesOn (s : ScenarioValue) (w : WorldValue) : Type 0 where
  pub played : IsCarriedPlayed s (whole_log w)
  pub beginning : w.beginning ≡ beginning_in s
  pub noted : w.refused ≡ None
  pub unstopped : w.stopped ≡ false

-- The world runs the scenario, and the carrier is what its whole log says.
pub record CarriesRun (s : ScenarioValue) (w : WorldValue) (c : CarrierValue) : Type 0 where
  pub script : IsCarriedScript s
  pub goes_on : CarriesOn s w
  pub keeps : KeepsLog s.settings (whole_log w) c
