-- What the turns of a player make of a carried run.
--
-- Rule: docs/FORMATS.md, "What comes next" and "The ways a run ends".
use Rattle.std.specs.Prelude.{◌≡◌, ◌≢◌, ◌⊎◌, true, false, List, Option, None, Some}
use Rattle.tap_scenario.specs.Scenario.{ScenarioValue}
use Rattle.tap_log.specs.declared.record.Record.{Record}
use Rattle.tap_engine.specs.World.{HasNodesOfLog, WorldValue, whole_log}
use Rattle.tap_lawful.specs.CarriedRuns.{IsCarriedCut, IsCarriedFinished, IsCarriedPlayed, IsCarriedSpent}
use Rattle.tap_lawful.specs.Next.{beginning_in}
use Rattle.tap_replay.specs.CarriedRun.{IsCarriedRunOf}
use Rattle.tap_replay.specs.CarriedTurn.{carried_turn_outcome}
use Rattle.tap_replay.specs.declared.carried_run.CarriedRun.{CarriedRun}
use Rattle.tap_replay.specs.declared.end.End.{End}
use Rattle.tap_replay.specs.declared.end.End.TheVariants.{Done, Spent, NoMemory}
use Rattle.tap_replay.specs.declared.end.Turned.{Turned}
use Rattle.tap_replay.specs.declared.end.Turned.TheVariants.{Over}

-- the log stays as it was, or memory ran out within the group that comes next
abbrev pub StaysOrIsCut : ScenarioValue → List Record → List Record → Type 0
StaysOrIsCut s before after = (after ≡ before) ⊎ IsCarriedCut s before after

-- The log is that of a carried run of the scenario that ended so: all steps were run, too many frames would have been sent, or memory was
-- refused, be it within a group.
abbrev pub HasCarriedEnded : ScenarioValue → End → List Record → Type 0
HasCarriedEnded s Done log = (played : List Record) × IsCarriedPlayed s played × IsCarriedFinished s played log
HasCarriedEnded s Spent log = (played : List Record) × IsCarriedPlayed s played × IsCarriedSpent s played log
HasCarriedEnded s NoMemory log = (played : List Record) × IsCarriedPlayed s played × StaysOrIsCut s played log

-- What the carried run of the scenario leaves that has ended so: the whole log is that of such a run, with what it begins is the scenario's,
-- and no refusal is left to be noted. The world was stopped if too many frames would have been sent, and not if all steps were run; then its
-- nodes are those of the system that its log has come to.
pub record IsCarriedLeft (s : ScenarioValue) (end : End) (w : WorldValue) : Type 0 where
  pub ended : HasCarriedEnded s end (whole_log w)
  pub beginning : w.beginning ≡ beginning_in s
  pub noted : w.refused ≡ None
  pub spent : end ≡ Spent → w.stopped ≡ true
  pub done : end ≡ Done → w.stopped ≡ false
  pub nodes : end ≡ Done → HasNodesOfLog w

-- the answer and the log are those of the outcome, unless memory was refused: then some first records of the group may stand
pub record CarriedTurnsAs (s : ScenarioValue) (before : List Record) (given : Turned) (after : List Record) : Type 0 where
  pub answer : given ≢ Over NoMemory → given ≡ (carried_turn_outcome s before).answer
  pub log : given ≢ Over NoMemory → after ≡ (carried_turn_outcome s before).log
  pub memory : given ≡ Over NoMemory → StaysOrIsCut s before after

-- a run that isn't over goes on from here, and one that is has left its world so
abbrev pub GoesOnCarriedUnless : Option End → ScenarioValue → CarriedRun → Type 0
GoesOnCarriedUnless None s run = IsCarriedRunOf s run
GoesOnCarriedUnless (Some end) s run = IsCarriedLeft s end run.carried.world
