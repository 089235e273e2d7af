use Rattle.std.proofs.Common.{◌≡◌, [], refl, sym, ◌∙◌}
use Rattle.tap_engine.specs.World.{whole_log}
use Rattle.tap_io.specs.BufferedSink.{buffered_state, state_over}
use Rattle.tap_replay.proofs.Growing.{player_prints}
use Rattle.tap_report.specs.Reporter.{Reports}
use Rattle.tap_report.proofs.ReportsLemmas.{Reports-finish, Reports-new}
use Rattle.tap_report.proofs.WritesLemmas.{WritesText-then}
use Rattle.tap_top.specs.Ending.{text_of_run}
use Rattle.tap_top.proofs.Causes.{run_as}
use Rattle.tap_top.proofs.Texts.{HasWritten-from_text}
use Rattle.tap_top.proofs.top.print_run.Goals as goal

pub put_from-requires-clause-printable : goal.put_from-requires-clause-printable
put_from-requires-clause-printable g c =
    rw c.log.ensures (player_prints c.args.scenario.now c.args.player.now c.requires.valid c.requires.played).printable

pub put_from-requires-clause-few : goal.put_from-requires-clause-few
put_from-requires-clause-few g c =
    rw c.log.ensures (player_prints c.args.scenario.now c.args.player.now c.requires.valid c.requires.played).few

pub returns-clause-run : goal.returns-clause-run
returns-clause-run g c =
    rw c.of-before.ensures (run_as c.args.scenario.now c.play.result c.play.new.player.world c.play.ensures.left)

pub returns-clause-written : goal.returns-clause-written
returns-clause-written g c =
    let mode = c.args.mode in
    let log = whole_log c.play.new.player.world in
    let before = c.of-before.result in
    let first = g.K.Sink.state c.args.sink.now in
    let name = c.new-text.result.inner.ghost_name in
    let start : buffered_state g.K.Sink.state c.new-text.result ≡ state_over first name [] =
    rw (c.new-text.ensures.value, c.new-text.ensures.empty) refl in
    let begun = buffered_state g.K.Sink.state c.new-text.result in
    let fresh : Reports mode [] begun begun c.new-reporter.result = rw c.new-reporter.ensures (Reports-new mode begun) in
    let one = c.put_from.ensures.reports mode begun fresh in
    let all = c.play.ensures.reports mode begun (rw c.log.ensures at one) in
    let printed = WritesText-then (Reports-finish all c.finish-finished.ensures) c.write_fault_line-so_far.ensures in
    let passed_on = c.flush_after-written.ensures.written first name (text_of_run mode log before) (rw (← start) printed) in
    let written = HasWritten-from_text first _ (text_of_run mode log before) before c.flush_after-written.result passed_on in
    let kept : c.into_inner.result.ghost_name ≡ name =
    c.into_inner.ensures.same_reference ∙ c.flush_after-written.ensures.same_reference ∙ printed.follows.behind.0 in
    rw (c.sink-1.given.1 (sym (kept ∙ c.new-text.ensures.same_reference)), c.into_inner.ensures.value, c.with_writing.ensures) written
