use Rattle.tap_engine.specs.World.{whole_log}
use Rattle.tap_lawful.specs.RunLaws.{left_in}
use Rattle.tap_replay.specs.Player.{MayTurn}
use Rattle.tap_replay.proofs.whole.replay.Given as goal

-- the player may turn
abbrev pub invariant-loop-end : goal.invariant-loop-end
invariant-loop-end l = MayTurn l.scenario (whole_log l.player.world)

abbrev pub decreases-loop-end : goal.decreases-loop-end
decreases-loop-end l = left_in l.scenario (whole_log l.player.world)
