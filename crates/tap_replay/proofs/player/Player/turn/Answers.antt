use Rattle.std.proofs.Common.{◌≡◌, ◌<◌, Option, sym, subst}
use Rattle.tap_scenario.specs.Scenario.{IsScript, ScenarioValue}
use Rattle.tap_engine.specs.World.{whole_log}
use Rattle.tap_lawful.specs.RunLaws.{left_in}
use Rattle.tap_replay.specs.Player.{MayTurn, PlayerValue, over_by}
use Rattle.tap_replay.specs.Runs.{HasPlayed, IsPlayer, RunsUnless, TakesTurn, world_of}
use Rattle.tap_replay.specs.declared.end.End.{End}
use Rattle.tap_replay.specs.declared.runs.Running.{Running}
use Rattle.tap_replay.proofs.ByCarrier.{has_headline, has_played, is_lawful, may_turn, player_of, runs_alike}
use Rattle.tap_replay.proofs.player.Player.turn.Goals as goal

-- the player runs each scenario by which it may turn
runs_this : (s : ScenarioValue) (running : Running) (over : Option End) (p : PlayerValue) → player_of running over ≡ p → IsPlayer running over
    → IsScript s → MayTurn s (whole_log p.world) → RunsUnless over s running
runs_this s running over p seen is valid may =
    runs_alike is.script s is.valid valid over running is.run_is (subst (λ (q : PlayerValue). MayTurn s (whole_log q.world)) (sym seen) may)

played_this : (s : ScenarioValue) (running : Running) (over : Option End) (p : PlayerValue) → player_of running over ≡ p → IsPlayer running over
    → IsScript s → MayTurn s (whole_log p.world) → HasPlayed s p
played_this s running over p seen is valid may = subst (HasPlayed s) seen (has_played s over running (runs_this s running over p seen is valid may))

pub returns-in-Some-clause-played : goal.returns-in-Some-clause-played
returns-in-Some-clause-played c =
    played_this c.args.scenario.now c.self.inside.running c.self.inside.over c.args.self.now c.self.view_is c.self.invariant
    c.step_count.ensures.valid c.requires

pub returns-in-Some-clause-headline : goal.returns-in-Some-clause-headline
returns-in-Some-clause-headline c =
    has_headline c.args.scenario.now c.step_count.ensures.valid c.args.self.now
    (played_this c.args.scenario.now c.self.inside.running c.self.inside.over c.args.self.now c.self.view_is c.self.invariant
    c.step_count.ensures.valid c.requires)

pub returns-in-Some-clause-lawful : goal.returns-in-Some-clause-lawful
returns-in-Some-clause-lawful c =
    is_lawful c.args.scenario.now c.step_count.ensures.valid c.args.self.now
    (played_this c.args.scenario.now c.self.inside.running c.self.inside.over c.args.self.now c.self.view_is c.self.invariant
    c.step_count.ensures.valid c.requires)

pub turn-turned-requires : goal.turn-turned-requires
turn-turned-requires c =
    subst (λ o. RunsUnless o c.args.scenario.now c.self.inside.running) c.in_default.is
    (runs_this c.args.scenario.now c.self.inside.running c.self.inside.over c.args.self.now c.self.view_is c.self.invariant
    c.step_count.ensures.valid c.requires)

pub returns-clause-turns : goal.returns-clause-turns
returns-clause-turns c =
    let s = c.args.scenario.now in
    let running = c.self.inside.running in
    let given = c.turn-turned.result in
    let after : PlayerValue = record { world = world_of c.turn-turned.new.self; over = c.end_in-self-inside.result } in
    let seen : player_of running c.self.inside.over ≡ c.args.self.now = c.self.view_is in
    subst (λ (p : PlayerValue). TakesTurn s p given after) seen
    (subst (λ o. TakesTurn s (player_of running o) given after) (sym c.in_default.is) c.turn-turned.ensures.turns)

pub returns-clause-played : goal.returns-clause-played
returns-clause-played c =
    let s = c.args.scenario.now in
    let running = c.turn-turned.new.self in
    subst (λ o. HasPlayed s (player_of running o)) (sym c.end_in-self-inside.ensures)
    (has_played s (over_by c.turn-turned.result) running c.turn-turned.ensures.run)

pub returns-clause-headline : goal.returns-clause-headline
returns-clause-headline c =
    let s = c.args.scenario.now in
    let running = c.turn-turned.new.self in
    let over = over_by c.turn-turned.result in
    has_headline s c.step_count.ensures.valid (player_of running over) (has_played s over running c.turn-turned.ensures.run)

pub returns-clause-lawful : goal.returns-clause-lawful
returns-clause-lawful c =
    let s = c.args.scenario.now in
    let running = c.turn-turned.new.self in
    let over = over_by c.turn-turned.result in
    is_lawful s c.step_count.ensures.valid (player_of running over) (has_played s over running c.turn-turned.ensures.run)

pub returns-clause-less : goal.returns-clause-less
returns-clause-less c = λ more.
    let s = c.args.scenario.now in
    subst (λ (p : PlayerValue). left_in s (whole_log (world_of c.turn-turned.new.self)) < left_in s (whole_log p.world)) c.self.view_is
    (c.turn-turned.ensures.less more)

pub returns-clause-may : goal.returns-clause-may
returns-clause-may c =
    let s = c.args.scenario.now in
    let running = c.turn-turned.new.self in
    let over = over_by c.turn-turned.result in
    may_turn s c.step_count.ensures.valid (player_of running over) (has_played s over running c.turn-turned.ensures.run)
