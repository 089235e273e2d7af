use Rattle.std.proofs.Common.{◌≡◌, ◌≤◌, None, length, take}
use Rattle.tap_engine.specs.World.{whole_log}
use Rattle.tap_lawful.specs.RunLaws.{left_in}
use Rattle.tap_replay.specs.Runs.{HasPlayed}
use Rattle.tap_replay.proofs.printing.take_turns.Given as goal

-- the run goes on, its log begins with the one before, and no more turns are left than then
abbrev pub invariant-loop-turned : goal.invariant-loop-turned
invariant-loop-turned l = record {
  played : HasPlayed l.scenario l.player;
  begun : l.player.over ≡ None;
  front : take (length (whole_log l.fn.player.world)) (whole_log l.player.world) ≡ whole_log l.fn.player.world;
  less : left_in l.scenario (whole_log l.player.world) ≤ left_in l.scenario (whole_log l.fn.player.world);
}

abbrev pub decreases-loop-turned : goal.decreases-loop-turned
decreases-loop-turned l = left_in l.scenario (whole_log l.player.world)
