use Rattle.std.proofs.Common.{◌≡◌, None, length}
use Rattle.std.specs.Prelude.{fold}
use Rattle.tap_io.specs.Sink.{SinkState}
use Rattle.tap_engine.specs.World.{whole_log}
use Rattle.tap_lawful.specs.RunLaws.{left_in}
use Rattle.tap_replay.specs.Runs.{HasPlayed}
use Rattle.tap_report.specs.Reporter.{Reports, settings_after}
use Rattle.tap_report.specs.declared.mode.Mode.{Mode}
use Rattle.tap_judge.specs.Expected.{expected_state}
use Rattle.tap_judge.proofs.printed.play_on.Given as goal

-- the run goes on, and the records of all turns were put
abbrev pub invariant-loop-text : goal.invariant-loop-text
invariant-loop-text l = record {
  played : HasPlayed l.scenario l.player;
  begun : l.player.over ≡ None;
  put : l.reporter.records ≡ length (whole_log l.player.world);
  settings : l.reporter.settings ≡ fold settings_after None (whole_log l.player.world);
  reports : (mode : Mode) (first : SinkState)
      → Reports mode (whole_log l.fn.player.world) first (expected_state l.fn.text) l.fn.reporter
      → Reports mode (whole_log l.player.world) first (expected_state l.text) l.reporter;
}

abbrev pub decreases-loop-text : goal.decreases-loop-text
decreases-loop-text l = left_in l.scenario (whole_log l.player.world)
