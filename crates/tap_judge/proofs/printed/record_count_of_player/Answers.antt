use Rattle.std.proofs.Common.{◌≡◌, ◌∙◌, [], None, ap, arith, length, subst, sym}
use Rattle.tap_engine.specs.World.{whole_log}
use Rattle.tap_replay.proofs.Growing.{player_prints}
use Rattle.tap_report.specs.Reporter.{Reports}
use Rattle.tap_report.specs.Text.{texts_after}
use Rattle.tap_report.specs.Written.{WritesText}
use Rattle.tap_report.specs.declared.mode.Mode.TheVariants.{Long}
use Rattle.tap_report.specs.declared.written.Written.TheVariants.{All}
use Rattle.tap_report.proofs.ReportsLemmas.{Reports-new}
use Rattle.tap_judge.specs.Expected.{ExpectedValue, expected_state, expects}
use Rattle.tap_judge.proofs.Expecting.{all_taken}
use Rattle.tap_judge.proofs.PrintedTexts.{printed_lawful}
use Rattle.tap_judge.proofs.printed.record_count_of_player.Goals as goal

pub put_from-requires-clause-printable : goal.put_from-requires-clause-printable
put_from-requires-clause-printable c =
    rw c.log.ensures (player_prints c.args.scenario.now c.args.player.now c.requires.valid c.requires.played).printable

pub put_from-requires-clause-few : goal.put_from-requires-clause-few
put_from-requires-clause-few c =
    rw c.log.ensures (player_prints c.args.scenario.now c.args.player.now c.requires.valid c.requires.played).few

pub overflow_cast-result : goal.overflow_cast-result
overflow_cast-result c =
    let few = (player_prints c.args.scenario.now c.play_on.new.player c.requires.valid c.play_on.ensures.played).few in
    let size = c.len.ensures ∙ ap length c.log-then-has_taken.ensures in
    omega (arith, few, size)

pub returns-then-has_taken : goal.returns-then-has_taken
returns-then-has_taken c =
    let bytes = c.args.bytes.now in
    let log = whole_log c.play_on.new.player.world in
    let begun = expected_state c.new-text.result in
    let fresh : Reports Long [] begun begun c.new-reporter.result = rw c.new-reporter.ensures (Reports-new Long begun) in
    let one = c.put_from.ensures.reports Long begun fresh in
    let all : Reports Long log begun (expected_state c.play_on.new.text) c.play_on.new.reporter =
    c.play_on.ensures.reports Long begun (rw c.log.ensures at one) in
    let written : WritesText (expected_state (expects bytes)) (expected_state c.play_on.new.text) (texts_after Long None log) All
    c.play_on.new.reporter.so_far =
    subst
    (λ (e : ExpectedValue). WritesText (expected_state e) (expected_state c.play_on.new.text) (texts_after Long None log) All
    c.play_on.new.reporter.so_far)
    c.new-text.ensures all.text in
    let taken = c.has_taken.ensures c.if-has_taken.true in
    let same : texts_after Long None log ≡ bytes =
    all_taken bytes (texts_after Long None log) c.play_on.new.text c.play_on.new.reporter.so_far written taken.0 taken.1 in
    printed_lawful c.shapes_law.ensures c.args.scenario.now c.play_on.new.player bytes c.len.result c.requires.valid c.play_on.ensures.played same
    (sym (c.len.ensures ∙ ap length c.log-then-has_taken.ensures))
