use Rattle.tap_engine.specs.World.{whole_log}
use Rattle.tap_replay.specs.Player.{MayTurn}
use Rattle.tap_test_runs.proofs.replay.turns_of.Given as goal

-- the scenario may be played on
abbrev pub invariant-loop-turns : goal.invariant-loop-turns
invariant-loop-turns l = MayTurn l.scenario (whole_log l.player.world)
