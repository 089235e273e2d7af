use Rattle.tap_report.proofs.ReportsLemmas.{BeginsAfter-from, Reports-finish, Reports-new, Reports-put_all}
use Rattle.tap_test_texts.proofs.report_checks.put_together.Goals as goal

pub put_all-requires-clause-begins : goal.put_all-requires-clause-begins
put_all-requires-clause-begins g c =
    rw (c.new-reporter.ensures, c.as_slice.ensures) (BeginsAfter-from c.args.log.now.records 0 c.requires.printable.begins)

pub put_all-requires-clause-printable : goal.put_all-requires-clause-printable
put_all-requires-clause-printable g c = rw (c.new-reporter.ensures, c.as_slice.ensures) c.requires.printable.each

pub returns : goal.returns
returns g c =
    let fresh = Reports-new c.args.mode (g.K.Sink.state c.args.sink.now) in
    let puts = rw (c.new-reporter.ensures, c.as_slice.ensures) at c.put_all.ensures in
    Reports-finish (Reports-put_all fresh puts) c.finish.ensures
