-- The text of a log has a byte for each record at least.
use Rattle.std.proofs.Common.{inl, inr, ℕ, ◌≤◌, List, [], ◌∷◌, length, Option, None, ap, codes, arith, length-append}
use Rattle.tap_name.specs.Settings.{SettingsValue}
use Rattle.tap_log.specs.declared.record.Record.{Record}
use Rattle.tap_report.specs.Shapes.{line}
use Rattle.tap_report.specs.Summary.{ending, numbers_of}
use Rattle.tap_report.specs.Text.{further_lines, line_of, settings_after, settings_so_far, text_of_log, text_of_record, texts_after}
use Rattle.tap_report.specs.declared.mode.Mode.TheVariants.{Long}
use Rattle.tap_shape.specs.Text.{IsTextOf, last_line}

record_size : (settings : Option SettingsValue) (item : Record) → 1 ≤ length (text_of_record Long settings item)
record_size settings item =
    let first = line_of settings item in
    let whole = length-append (line first) (further_lines Long item) in
    let size = length-append first (codes "\n") in
    omega (arith, whole, size)

texts_size : (settings : Option SettingsValue) (items : List Record) → length items ≤ length (texts_after Long settings items)
texts_size settings [] = omega arith
texts_size settings (item ∷ items) =
    let one = record_size settings item in
    let more = texts_size (settings_after settings item) items in
    let both = length-append (text_of_record Long settings item) (texts_after Long (settings_after settings item) items) in
    omega (arith, one, more, both)

log_size : (log : List Record) → length log ≤ length (text_of_log Long log)
log_size log =
    let texts = texts_size None log in
    let both = length-append (texts_after Long None log) (ending Long (settings_so_far log) (numbers_of log)) in
    omega (arith, texts, both)

pub records_within : (bytes : List ℕ) (log : List Record) → IsTextOf bytes log → length log ≤ length bytes
records_within bytes log of =
    let size = log_size log in
    elim of.text [
      | inl is ↦ let same = ap length is in omega (arith, size, same)
      | inr is ↦ let same = ap length is in let both = length-append (text_of_log Long log) last_line in omega (arith, size, same, both)
    ]
