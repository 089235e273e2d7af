use Rattle.std.proofs.Common.{◌≡◌, take, None}
use Rattle.std.proofs.lemmas.List.{take_all}
use Rattle.tap_report.specs.Text.{ArePrintable, BeginsOnce}
use Rattle.tap_report.proofs.ReportsLemmas.{Reports-new, Reports-next, Reports-finish, begins_next}
use Rattle.tap_report.proofs.TextLemmas.{ArePrintable-at}
use Rattle.tap_test_texts.proofs.report_checks.put_each.Goals as goal

pub loop-item-init : goal.loop-item-init
loop-item-init g c = rw c.new-reporter.ensures (Reports-new c.args.mode (g.K.Sink.state c.args.sink.now))

pub put-requires-clause-begins : goal.put-requires-clause-begins
put-requires-clause-begins g c =
    let records = c.as_slice-records.result.now in
    let begins : BeginsOnce records = rw c.as_slice-records.ensures c.requires.printable.begins in
    begins_next records c.loop-item.item-index c.item-item.result c.loop-item.reporter.settings begins
    c.loop-item-test.true c.item-item.is c.loop-item.invariant.settings

pub put-requires-clause-printable : goal.put-requires-clause-printable
put-requires-clause-printable g c =
    let records = c.as_slice-records.result.now in
    let each : ArePrintable None records = rw c.as_slice-records.ensures c.requires.printable.each in
    rw c.loop-item.invariant.settings
    (ArePrintable-at None records c.loop-item.item-index c.item-item.result each c.loop-item-test.true c.item-item.is)

pub loop-item-preserved : goal.loop-item-preserved
loop-item-preserved g c =
    Reports-next c.as_slice-records.result.now c.loop-item.item-index c.item-item.result c.loop-item-test.true c.item-item.is
    c.loop-item.invariant c.put.ensures

pub returns : goal.returns
returns g c =
    let records = c.as_slice-records.result.now in
    let all : take c.loop-item.item-index records ≡ records = take_all c.loop-item.item-index records c.loop-item-test.false in
    rw (← c.as_slice-records.ensures) (Reports-finish (rw all at c.loop-item.invariant) c.finish.ensures)
