use Rattle.std.proofs.Common.{◌≡◌, ◌<◌, None, length}
use Rattle.tap_engine.specs.World.{whole_log}
use Rattle.tap_lawful.specs.PlayedLaws.{BeginsWith}
use Rattle.tap_lawful.specs.RunLaws.{left_in}
use Rattle.tap_replay.specs.Player.{MayTurn}
use Rattle.tap_replay.specs.Runs.{HasPlayed}
use Rattle.tap_judge.proofs.judging.play.Given as goal

-- the run goes on, and the log goes on after its records
abbrev pub invariant-loop-verdict : goal.invariant-loop-verdict
invariant-loop-verdict l = record {
  played : HasPlayed l.scenario l.player;
  may : MayTurn l.scenario (whole_log l.player.world);
  begun : l.player.over ≡ None;
  begins : BeginsWith (whole_log l.player.world) l.log.records;
  more : length (whole_log l.player.world) < length l.log.records;
}

abbrev pub decreases-loop-verdict : goal.decreases-loop-verdict
decreases-loop-verdict l = left_in l.scenario (whole_log l.player.world)
