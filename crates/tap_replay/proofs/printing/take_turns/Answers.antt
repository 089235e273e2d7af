use Rattle.std.proofs.Common.{◌∙◌, ap, arith}
use Rattle.tap_engine.specs.World.{whole_log}
use Rattle.tap_replay.proofs.ByCarrier.{may_turn}
use Rattle.tap_replay.specs.Player.{over_by}
use Rattle.tap_replay.proofs.Growing.{front_on, turn_front}
use Rattle.tap_replay.proofs.printing.take_turns.Goals as goal

pub turn-turned-requires : goal.turn-turned-requires
turn-turned-requires c =
    may_turn c.args.scenario.now c.requires.valid c.loop-turned.player c.loop-turned.invariant.played

pub returns-in-Over-clause-front : goal.returns-in-Over-clause-front
returns-in-Over-clause-front c =
    front_on (whole_log c.args.player.now.world) (whole_log c.loop-turned.player.world) (whole_log c.turn-turned.new.self.world)
    c.loop-turned.invariant.front
    (turn_front c.args.scenario.now c.loop-turned.player c.turn-turned.result c.turn-turned.new.self c.turn-turned.ensures.turns
    c.loop-turned.invariant.begun)

pub returns-then-len-enough-clause-front : goal.returns-then-len-enough-clause-front
returns-then-len-enough-clause-front c =
    front_on (whole_log c.args.player.now.world) (whole_log c.loop-turned.player.world) (whole_log c.turn-turned.new.self.world)
    c.loop-turned.invariant.front
    (turn_front c.args.scenario.now c.loop-turned.player c.turn-turned.result c.turn-turned.new.self c.turn-turned.ensures.turns
    c.loop-turned.invariant.begun)

pub loop-turned-preserved : goal.loop-turned-preserved
loop-turned-preserved c = record {
  played = c.turn-turned.ensures.played;
  begun = c.turn-turned.ensures.over ∙ ap over_by c.in_default.is;
  front =
      front_on (whole_log c.args.player.now.world) (whole_log c.loop-turned.player.world) (whole_log c.turn-turned.new.self.world)
      c.loop-turned.invariant.front
      (turn_front c.args.scenario.now c.loop-turned.player c.turn-turned.result c.turn-turned.new.self c.turn-turned.ensures.turns
      c.loop-turned.invariant.begun);
  less = omega (arith, c.turn-turned.ensures.less c.in_default.is, c.loop-turned.invariant.less);
}
