-- What a player works on, and what the next group makes of it.
--
-- Rule: docs/FORMATS.md, "What comes next".
use Rattle.std.specs.Prelude.{◌≡◌, ◌<◌, false, true, List, [], ◌∷◌, ◌++◌, Option, None, Some, Result, Ok, Err}
use Rattle.tap_scenario.specs.Scenario.{IsScript, ScenarioValue}
use Rattle.tap_log.specs.declared.record.Record.{Record}
use Rattle.tap_log.specs.declared.record.Record.TheVariants.{Spent as SpentRecord}
use Rattle.tap_log.specs.Counts.{sent_count}
use Rattle.tap_log.specs.Reduced.{reduced}
use Rattle.tap_engine.specs.World.{WorldValue, whole_log}
use Rattle.tap_engine.specs.declared.stop.Stop.{Stop}
use Rattle.tap_engine.specs.declared.stop.Stop.TheVariants.{Spent, NoMemory}
use Rattle.tap_lawful.specs.Due.{chosen_in}
use Rattle.tap_lawful.specs.Next.{beginning_in, begun_count, uncarried_next_group}
use Rattle.tap_lawful.specs.Lawful.{IsUncarriedPlayed, step_alone}
use Rattle.tap_replay.specs.Choice.{IsChoiceOf}
use Rattle.tap_replay.specs.declared.run.Run.{Run}

-- The world goes on, and its whole log is that of a run of the scenario which isn't over. Without the roots that it tells it is the log of plain
-- records.
pub record WorldGoesOn (s : ScenarioValue) (w : WorldValue) : Type 0 where
  pub played : IsUncarriedPlayed s (whole_log w)
  pub plain : reduced (whole_log w) ≡ w.log
  pub beginning : w.beginning ≡ beginning_in s
  pub noted : w.refused ≡ None
  pub unstopped : w.stopped ≡ false

-- A run of the scenario that isn't over, with the number of the steps that were begun, and what the last one has chosen. The scenario is within
-- its limits.
pub record IsRunOf (s : ScenarioValue) (run : Run) : Type 0 where
  pub valid : IsScript s
  pub goes_on : WorldGoesOn s run.world
  pub begun : run.begun ≡ begun_count run.world.log
  pub choice : IsChoiceOf (chosen_in run.world.log) run.choice

-- the group was added
pub record HasAdded (s : ScenarioValue) (group : List Record) (before after : Run) : Type 0 where
  pub log : whole_log after.world ≡ whole_log before.world ++ group
  pub run : IsRunOf s after

-- with what the world of the run begins is the scenario's, and no refusal is left to be noted
pub record IsWorldOf (s : ScenarioValue) (w : WorldValue) : Type 0 where
  pub beginning : w.beginning ≡ beginning_in s
  pub noted : w.refused ≡ None

-- with the group too many frames would be sent: the log says so, and the world was stopped
pub record HasSpent (s : ScenarioValue) (group : List Record) (before after : Run) : Type 0 where
  pub over : s.frames < sent_count (whole_log before.world ++ group)
  pub log : whole_log after.world ≡ whole_log before.world ++ (step_alone group ++ SpentRecord s.frames ∷ [])
  pub left : IsWorldOf s after.world
  pub stopped : after.world.stopped ≡ true

-- memory was refused, and the log stays
pub record HasLacked (s : ScenarioValue) (before after : Run) : Type 0 where
  pub log : whole_log after.world ≡ whole_log before.world
  pub left : IsWorldOf s after.world

-- by the answer: the group was added; or it would send too many frames; or memory was refused
abbrev pub AddsGroup : ScenarioValue → List Record → Run → Result (Unit {0}) Stop → Run → Type 0
AddsGroup s group before (Ok done) after = HasAdded s group before after
AddsGroup s group before (Err Spent) after = HasSpent s group before after
AddsGroup s group before (Err NoMemory) after = HasLacked s before after
AddsGroup s group before (Err other) after = ⊥

-- the group that comes next is added; nothing changes if none does
abbrev pub AddsComing : ScenarioValue → Option (List Record) → Run → Result (Unit {0}) Stop → Run → Type 0
AddsComing s (Some group) before given after = AddsGroup s group before given after
AddsComing s None before given after = (given ≡ Ok tt) × (after.world ≡ before.world) × IsRunOf s after

abbrev pub AddsNext : ScenarioValue → Run → Result (Unit {0}) Stop → Run → Type 0
AddsNext s before given after = AddsComing s (uncarried_next_group s (whole_log before.world)) before given after
