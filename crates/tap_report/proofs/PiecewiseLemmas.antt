-- A log that is printed piece by piece while it grows: its records from a place on, and what is reported with them.
-- Cited above: ArePrintable-rest, BeginsAfter-rest, Reports-rest, rest_of, settings_so_far-rest
use Rattle.std.proofs.Common.{◌≡◌, ℕ, ◌-◌, List, ◌++◌, length, take, drop, Option, None, refl, sym, subst, ◌∙◌, arith, length-drop, take-append-drop}
use Rattle.std.specs.Prelude.{fold, slice_range}
use Rattle.std.proofs.lemmas.List.{take_all}
use Rattle.std.proofs.lemmas.List.Sums.{fold-append}
use Rattle.tap_name.specs.Settings.{SettingsValue}
use Rattle.tap_io.specs.Sink.{SinkState}
use Rattle.tap_log.specs.declared.record.Record.{Record}
use Rattle.tap_report.specs.Text.{ArePrintable, BeginsAfter, BeginsOnce, settings_after, settings_so_far}
use Rattle.tap_report.specs.Reporter.{PutsAll, ReporterValue, Reports}
use Rattle.tap_report.specs.declared.mode.Mode.{Mode}
use Rattle.tap_report.specs.declared.written.Written.{Written}
use Rattle.tap_report.proofs.TextLemmas.{ArePrintable-from}
use Rattle.tap_report.proofs.ReportsLemmas.{BeginsAfter-from, Reports-put_all}

-- the records from a place on
pub rest_of : (log : List Record) (from : ℕ) → slice_range log from (length log) ≡ drop from log
rest_of log from = take_all (length log - from) (drop from log) (omega (arith, length-drop from log))

-- They can be put after those before them.
pub BeginsAfter-rest : (log rest : List Record) (from : ℕ) (settings : Option SettingsValue) → rest ≡ drop from log
    → settings ≡ settings_so_far (take from log) → BeginsOnce log → BeginsAfter settings rest
BeginsAfter-rest log rest from settings is so_far begins = rw (is, so_far) (BeginsAfter-from log from begins)

pub ArePrintable-rest : (log rest : List Record) (from : ℕ) (settings : Option SettingsValue) → rest ≡ drop from log
    → settings ≡ settings_so_far (take from log) → ArePrintable None log → ArePrintable settings rest
ArePrintable-rest log rest from settings is so_far each = rw (is, so_far) (ArePrintable-from None log from each)

-- the settings with them
pub settings_so_far-rest : (log rest : List Record) (from : ℕ) (settings : Option SettingsValue) → rest ≡ drop from log
    → settings ≡ settings_so_far (take from log) → fold settings_after settings rest ≡ settings_so_far log
settings_so_far-rest log rest from settings is so_far =
    rw (is, so_far) (sym (fold-append settings_after None (take from log) (drop from log)) ∙ rw (take-append-drop from log) refl)

-- the reports of all records
pub Reports-rest : {mode : Mode} {old mid new : SinkState} {before after : ReporterValue} {written : Written} (log rest : List Record)
    (from : ℕ) → rest ≡ drop from log → Reports mode (take from log) old mid before → PutsAll before after rest mid new written
    → Reports mode log old new after
Reports-rest {mode = mode} {old = old} {new = new} {after = after} log rest from is reports puts =
    let all : take from log ++ rest ≡ log = rw is (take-append-drop from log) in
    subst (λ l. Reports mode l old new after) all (Reports-put_all reports puts)
