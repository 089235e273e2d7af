use Rattle.std.proofs.Common.{take}
use Rattle.tap_report.specs.Reporter.{Reports}
use Rattle.tap_test_texts.proofs.report_checks.put_each.Given as goal

abbrev pub invariant-loop-item : goal.invariant-loop-item
invariant-loop-item g l =
    Reports l.fn.mode (take l.item-index l.records) (g.K.Sink.state l.fn.sink) (g.K.Sink.state l.sink) l.reporter
