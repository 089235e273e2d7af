-- What contracts see of a player, and what its turns make of it: of a carried run, and of one that isn't carried.
--
-- Rule: docs/FORMATS.md, "What comes next" and "The ways a run ends".
use Rattle.std.specs.Prelude.{◌≡◌, Bool, true, false, List, Option, MatchOption}
use Rattle.tap_scenario.specs.Scenario.{IsScript, ScenarioValue}
use Rattle.tap_carried_world.specs.Value.{CarriesOn}
use Rattle.tap_engine.specs.World.{WorldValue, whole_log}
use Rattle.tap_log.specs.declared.record.Record.{Record}
use Rattle.tap_replay.specs.CarriedPlayer.{CarriedTurnsAs, GoesOnCarriedUnless, IsCarriedLeft}
use Rattle.tap_replay.specs.Player.{GoesOnUnless, IsLeft, PlayerValue, TurnsAs}
use Rattle.tap_replay.specs.Run.{WorldGoesOn}
use Rattle.tap_replay.specs.Turn.{turn_outcome}
use Rattle.tap_replay.specs.declared.end.End.{End}
use Rattle.tap_replay.specs.declared.end.Turned.{Turned}
use Rattle.tap_replay.specs.declared.end.Turned.TheVariants.{Over}
use Rattle.tap_replay.specs.declared.runs.Running.{Running}
use Rattle.tap_replay.specs.declared.runs.Running.TheVariants.{Carried, Plain}

-- ---- how far a run has come, by whether it is carried

-- the run goes on
abbrev pub GoesOnBy : Bool → ScenarioValue → WorldValue → Type 0
GoesOnBy true s w = CarriesOn s w
GoesOnBy false s w = WorldGoesOn s w

-- the run has ended so, and leaves this world
abbrev pub IsLeftBy : Bool → ScenarioValue → End → WorldValue → Type 0
IsLeftBy true s end w = IsCarriedLeft s end w
IsLeftBy false s end w = IsLeft s end w

abbrev pub LeavesWorld : ScenarioValue → End → WorldValue → Type 0
LeavesWorld s end w = IsLeftBy s.carrier s end w

-- the player has run the scenario so far
abbrev pub HasPlayed : ScenarioValue → PlayerValue → Type 0
HasPlayed s p = MatchOption p.over (GoesOnBy s.carrier s p.world) (λ end. IsLeftBy s.carrier s end p.world)

-- ---- turns

-- the answer of a turn is given, and the whole log is as it has it
abbrev pub TurnsBy : Bool → ScenarioValue → List Record → Turned → List Record → Type 0
TurnsBy true s before given after = CarriedTurnsAs s before given after
TurnsBy false s before given after = TurnsAs (turn_outcome s before) before given after

-- a run that is over stays as it is; another one takes its turn
abbrev pub TakesTurn : ScenarioValue → PlayerValue → Turned → PlayerValue → Type 0
TakesTurn s before given after =
    MatchOption before.over (TurnsBy s.carrier s (whole_log before.world) given (whole_log after.world))
    (λ end. (given ≡ Over end) × (after ≡ before))

-- ---- the player itself

-- the world of a run
abbrev pub world_of : Running → WorldValue
world_of (Plain run) = run.world
world_of (Carried run) = run.carried.world

-- a run that isn't over goes on from here, and one that is has left its world so
abbrev pub RunsUnless : Option End → ScenarioValue → Running → Type 0
RunsUnless over s (Plain run) = (s.carrier ≡ false) × GoesOnUnless over s run
RunsUnless over s (Carried run) = (s.carrier ≡ true) × GoesOnCarriedUnless over s run

-- the player runs some scenario that is within its limits, from here on or to this end
pub record IsPlayer (running : Running) (over : Option End) : Type 0 where
  pub script : ScenarioValue
  pub valid : IsScript script
  pub run_is : RunsUnless over script running
