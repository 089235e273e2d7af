use Rattle.std.proofs.Common.{◌≡◌, ◌<◌, length, Some}
use Rattle.tap_report.specs.Text.{IsPrintableLog, settings_so_far}
use Rattle.tap_test_texts.proofs.report_checks.log_of.Given as goal

abbrev pub invariant-loop-item : goal.invariant-loop-item
invariant-loop-item g l = record {
  printable : IsPrintableLog l.log.records;
  begun : 0 < length l.log.records;
  settings : settings_so_far l.log.records ≡ Some l.settings;
}
