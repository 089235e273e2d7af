use Rattle.std.proofs.Common.{◌≡◌, ◌∙◌, List, None, ap, subst, sym, take}
use Rattle.std.specs.Prelude.{fold}
use Rattle.tap_engine.specs.World.{whole_log}
use Rattle.tap_log.specs.declared.record.Record.{Record}
use Rattle.tap_report.specs.Reporter.{Reports, settings_after}
use Rattle.tap_replay.proofs.Growing.{front_within, player_prints}
use Rattle.tap_replay.proofs.printing.turns_and_put.Goals as goal

pub put_from-requires-clause-printable : goal.put_from-requires-clause-printable
put_from-requires-clause-printable g c =
    let prints = player_prints c.args.scenario.now c.take_turns-turned.new.player c.requires.valid c.take_turns-turned.ensures.played in
    rw c.log-2.ensures prints.printable

pub put_from-requires-clause-few : goal.put_from-requires-clause-few
put_from-requires-clause-few g c =
    let prints = player_prints c.args.scenario.now c.take_turns-turned.new.player c.requires.valid c.take_turns-turned.ensures.played in
    rw c.log-2.ensures prints.few

pub put_from-requires-clause-from : goal.put_from-requires-clause-from
put_from-requires-clause-from g c =
    let old = whole_log c.args.player.now.world in
    let new = whole_log c.take_turns-turned.new.player.world in
    let front = c.take_turns-turned.ensures.front in
    let within = front_within old new front in
    rw (c.log-2.ensures, c.len-from.ensures, c.log.ensures) within

pub put_from-requires-clause-settings : goal.put_from-requires-clause-settings
put_from-requires-clause-settings g c =
    let old = whole_log c.args.player.now.world in
    let front = c.take_turns-turned.ensures.front in
    let same : take c.len-from.result c.log-2.result.now.records ≡ old = rw (c.log-2.ensures, c.len-from.ensures, c.log.ensures) front in
    c.requires.settings ∙ ap (fold settings_after None) (sym same)

pub returns-clause-reports : goal.returns-clause-reports
returns-clause-reports g c = λ mode first reports.
    let old = whole_log c.args.player.now.world in
    let front = c.take_turns-turned.ensures.front in
    let same : take c.len-from.result c.log-2.result.now.records ≡ old = rw (c.log-2.ensures, c.len-from.ensures, c.log.ensures) front in
    let Before : List Record → Type 0 = λ l. Reports mode l first (g.K.Sink.state c.args.sink.now) c.args.reporter.now in
    let After : List Record → Type 0 = λ l. Reports mode l first (g.K.Sink.state c.put_from.new.sink) c.put_from.new.reporter in
    subst After c.log-2.ensures (c.put_from.ensures.reports mode first (subst Before (sym same) reports))
