-- What contracts see of a player, and what its turns make of a run that isn't carried.
--
-- Rule: docs/FORMATS.md, "What comes next" and "The ways a run ends".
use Rattle.std.specs.Prelude.{◌≡◌, ◌≢◌, true, false, List, take, Option, None, Some, Result, Ok, Err}
use Rattle.tap_scenario.specs.Scenario.{ScenarioValue}
use Rattle.tap_log.specs.declared.record.Record.{Record}
use Rattle.tap_log.specs.Log.{begun_steps}
use Rattle.tap_engine.specs.Kinds.{is_finished}
use Rattle.tap_engine.specs.World.{HasNodesOfLog, WorldValue, whole_log}
use Rattle.tap_engine.specs.declared.stop.Stop.{Stop}
use Rattle.tap_engine.specs.declared.stop.Stop.TheVariants.{NoMemory as StopNoMemory, Spent as StopSpent}
use Rattle.tap_lawful.specs.Next.{beginning_in, begun_count}
use Rattle.tap_lawful.specs.Lawful.{IsUncarriedFinished, IsUncarriedPlayed, IsUncarriedSpent}
use Rattle.tap_lawful.specs.Runs.{BeginsAsScenario}
use Rattle.tap_replay.specs.Run.{IsRunOf}
use Rattle.tap_replay.specs.Turn.{TurnOutcome}
use Rattle.tap_replay.specs.declared.end.End.{End}
use Rattle.tap_replay.specs.declared.end.End.TheVariants.{Done, Spent, NoMemory}
use Rattle.tap_replay.specs.declared.end.Turned.{Turned}
use Rattle.tap_replay.specs.declared.end.Turned.TheVariants.{Over}
use Rattle.tap_replay.specs.declared.run.Run.{Run}

-- the world, and how the run has ended, if it has
pub record PlayerValue : Type 0 where
  pub world : WorldValue
  pub over : Option End

-- ---- how far a run has come

-- The log is that of a run of the scenario that ended so: all steps were run, too many frames would have been sent, or memory was
-- refused.
abbrev pub HasEnded : ScenarioValue → End → List Record → Type 0
HasEnded s Done log = (played : List Record) × IsUncarriedPlayed s played × IsUncarriedFinished s played log
HasEnded s Spent log = (played : List Record) × IsUncarriedPlayed s played × IsUncarriedSpent s played log
HasEnded s NoMemory log = IsUncarriedPlayed s log

-- What the run of the scenario leaves that has ended so: the whole log is that of such a run, with what it begins is the scenario's, and no
-- refusal is left to be noted. The world was stopped if too many frames would have been sent, and not if all steps were run; then its nodes are
-- those of the system that its log has come to.
pub record IsLeft (s : ScenarioValue) (end : End) (w : WorldValue) : Type 0 where
  pub ended : HasEnded s end (whole_log w)
  pub beginning : w.beginning ≡ beginning_in s
  pub noted : w.refused ≡ None
  pub spent : end ≡ Spent → w.stopped ≡ true
  pub done : end ≡ Done → w.stopped ≡ false
  pub nodes : end ≡ Done → HasNodesOfLog w

-- ---- turns

-- The whole log begins as the scenario does, with `Carrier` exactly if that is carried, its steps are the scenario's first ones, and they are
-- all of them if it has its end.
pub record MayTurn (s : ScenarioValue) (log : List Record) : Type 0 where
  pub begins : BeginsAsScenario s log
  pub steps : begun_steps log ≡ take (begun_count log) s.steps
  pub all : is_finished log ≡ true → begun_steps log ≡ s.steps

-- an answer with which a run ends: all steps were run, too many frames would have been sent, or memory was refused
abbrev pub EndsRun : Result (Unit {0}) Stop → Type 0
EndsRun (Ok done) = Unit {0}
EndsRun (Err StopSpent) = Unit {0}
EndsRun (Err StopNoMemory) = Unit {0}
EndsRun (Err other) = ⊥

-- how a run has ended, by the last answer of its world
abbrev pub end_of : Result (Unit {0}) Stop → End
end_of (Ok done) = Done
end_of (Err StopSpent) = Spent
end_of (Err other) = NoMemory

-- how the run is over after this answer
abbrev pub over_by : Turned → Option End
over_by (Over end) = Some end
over_by _ = None

-- the answer and the log are those of the outcome, unless memory was refused: then the log stays as it was
pub record TurnsAs (outcome : TurnOutcome) (before : List Record) (given : Turned) (after : List Record) : Type 0 where
  pub answer : given ≢ Over NoMemory → given ≡ outcome.answer
  pub log : given ≢ Over NoMemory → after ≡ outcome.log
  pub memory : given ≡ Over NoMemory → after ≡ before

-- a run that isn't over goes on from here
abbrev pub GoesOnUnless : Option End → ScenarioValue → Run → Type 0
GoesOnUnless None s run = IsRunOf s run
GoesOnUnless (Some end) s run = IsLeft s end run.world
