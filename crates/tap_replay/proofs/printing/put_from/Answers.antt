use Rattle.std.proofs.Common.{◌≡◌, ◌∙◌, ℕ, Option, ap, arith, drop, length, length-drop, slice_range}
use Rattle.tap_name.specs.Settings.{SettingsValue}
use Rattle.tap_report.specs.Reporter.{ReporterValue}
use Rattle.tap_report.proofs.PiecewiseLemmas.{ArePrintable-rest, BeginsAfter-rest, Reports-rest, rest_of, settings_so_far-rest}
use Rattle.tap_replay.proofs.printing.put_from.Goals as goal

pub put_all-requires-clause-begins : goal.put_all-requires-clause-begins
put_all-requires-clause-begins g c =
    let log = c.args.log.now.records in
    BeginsAfter-rest log _ c.args.from c.args.reporter.now.settings (rw c.as_slice.ensures (rest_of log c.args.from)) c.requires.settings
    c.requires.printable.begins

pub put_all-requires-clause-printable : goal.put_all-requires-clause-printable
put_all-requires-clause-printable g c =
    let log = c.args.log.now.records in
    ArePrintable-rest log _ c.args.from c.args.reporter.now.settings (rw c.as_slice.ensures (rest_of log c.args.from)) c.requires.settings
    c.requires.printable.each

pub returns-clause-put : goal.returns-clause-put
returns-clause-put g c =
    let log = c.args.log.now.records in
    let records_of : ReporterValue → ℕ = λ kept. kept.records in
    let all = rw (c.as_slice.ensures, rest_of log c.args.from) at c.put_all.ensures.reporter in
    ap records_of all ∙ omega (arith, c.requires.put, c.requires.from, length-drop c.args.from log)

pub returns-clause-settings : goal.returns-clause-settings
returns-clause-settings g c =
    let log = c.args.log.now.records in
    let items = c.as_slice.result.now in
    let rest = slice_range items c.args.from (length items) in
    let is : rest ≡ drop c.args.from log = rw c.as_slice.ensures (rest_of log c.args.from) in
    let kept_settings : ReporterValue → Option SettingsValue = λ kept. kept.settings in
    ap kept_settings c.put_all.ensures.reporter
    ∙ settings_so_far-rest log rest c.args.from c.args.reporter.now.settings is c.requires.settings

pub returns-clause-reports : goal.returns-clause-reports
returns-clause-reports g c = λ mode first reports.
    let log = c.args.log.now.records in
    let items = c.as_slice.result.now in
    let rest = slice_range items c.args.from (length items) in
    let is : rest ≡ drop c.args.from log = rw c.as_slice.ensures (rest_of log c.args.from) in
    Reports-rest log rest c.args.from is reports c.put_all.ensures
