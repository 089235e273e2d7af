-- What a player of a carried run works on, and what the next group makes of it.
--
-- Rule: docs/FORMATS.md, "What comes next".
use Rattle.std.specs.Prelude.{◌≡◌, List, ◌++◌, Option, None, Some, Result, Ok, Err}
use Rattle.tap_scenario.specs.Scenario.{ScenarioValue}
use Rattle.tap_engine.specs.World.{whole_log}
use Rattle.tap_carried_world.specs.Adds.{HasLacked, HasSpent}
use Rattle.tap_carried_world.specs.Value.{CarriesRun}
use Rattle.tap_engine.specs.declared.stop.Stop.{Stop}
use Rattle.tap_engine.specs.declared.stop.Stop.TheVariants.{NoMemory, Spent}
use Rattle.tap_lawful.specs.CarriedDue.{carried_choice}
use Rattle.tap_lawful.specs.CarriedNext.{carried_next_group}
use Rattle.tap_lawful.specs.Next.{begun_count}
use Rattle.tap_log.specs.declared.record.Record.{Record}
use Rattle.tap_replay.specs.CarriedChosen.{AreChosen}
use Rattle.tap_replay.specs.declared.carried_run.CarriedRun.{CarriedRun}

-- a carried run of the scenario that isn't over, with the number of the steps that were begun, and what the last one has chosen
pub record IsCarriedRunOf (s : ScenarioValue) (run : CarriedRun) : Type 0 where
  pub carries : CarriesRun s run.carried.world run.carried.carrier
  pub begun : run.begun ≡ begun_count (whole_log run.carried.world)
  pub chosen : AreChosen (carried_choice (whole_log run.carried.world)) run.choice run.ticks

-- the group was added
pub record HasAdded (s : ScenarioValue) (group : List Record) (before after : CarriedRun) : Type 0 where
  pub log : whole_log after.carried.world ≡ whole_log before.carried.world ++ group
  pub run : IsCarriedRunOf s after

-- the group that comes next was added, or nothing if none comes
abbrev pub HasGrown : ScenarioValue → Option (List Record) → CarriedRun → CarriedRun → Type 0
HasGrown s (Some group) before after = HasAdded s group before after
HasGrown s None before after = (whole_log after.carried.world ≡ whole_log before.carried.world) × IsCarriedRunOf s after

-- by the answer: that; or the group would send too many frames; or memory was refused
abbrev pub AddsCarried : ScenarioValue → CarriedRun → Result (Unit {0}) Stop → CarriedRun → Type 0
AddsCarried s before (Ok done) after = HasGrown s (carried_next_group s (whole_log before.carried.world)) before after
AddsCarried s before (Err Spent) after = HasSpent s before.carried.world after.carried.world
AddsCarried s before (Err NoMemory) after = HasLacked s before.carried.world after.carried.world
AddsCarried s before (Err other) after = ⊥
