-- The puts of records, one after another.
-- Cited above: begins_next, BeginsAfter-from, IsPrintableLog-push, Reports-finish, Reports-new, Reports-next, Reports-put_all
use Rattle.std.proofs.Common.{◌≡◌, ◌<◌, ℕ, zero, suc, ◌+◌, List, [], ◌∷◌, ◌++◌, length, take, drop, get_or, true, Option, None, Some, IsNone, All, refl, sym, ap, ◌∙◌, subst, arith, append_assoc, append-nil, length-append}
use Rattle.std.specs.Prelude.{◌↔◌, fold, is_some, IsSome}
use Rattle.std.proofs.lemmas.List.Elements.{All-drop, All-get_or, All-push}
use Rattle.std.proofs.lemmas.List.Sums.{fold-append}
use Rattle.tap_name.specs.Settings.{SettingsValue}
use Rattle.tap_io.specs.Sink.{SinkState}
use Rattle.tap_log.specs.declared.record.Record.{Record}
use Rattle.tap_log.specs.declared.record.Record.TheVariants.{Begin}
use Rattle.tap_report.specs.Summary.{ending}
use Rattle.tap_report.specs.Tally.{numbers_in}
use Rattle.tap_report.specs.Text.{IsBegin, IsPrintable, IsPrintableLog, BeginsAfter, BeginsOnce, texts_after, text_of_record, text_of_log, settings_after, settings_so_far}
use Rattle.tap_report.specs.Written.{WritesText}
use Rattle.tap_report.specs.Reporter.{ReporterValue, PutsRecord, PutsAll, Finishes, PutsEach, PutsWriteTheText, Reports, kept_after, new_reporter}
use Rattle.tap_report.specs.declared.mode.Mode.{Mode}
use Rattle.tap_report.specs.declared.written.Written.{Written}
use Rattle.tap_report.specs.declared.written.Written.TheVariants.{All as AllWritten}
use Rattle.tap_report.proofs.TextLemmas.{texts_after-append, texts_after-push, settings_so_far-push, take_next, ArePrintable-push}
use Rattle.tap_report.proofs.TallyLemmas.{ending-kept, kept_of-append, kept_of-push, none_kept}
use Rattle.tap_report.proofs.WritesLemmas.{WritesText-then, WritesText-none}

-- before the first put
pub Reports-new : (mode : Mode) (state : SinkState) → Reports mode [] state state (new_reporter mode)
Reports-new mode state =
    record {
      same_mode = refl;
      settings = refl;
      count = refl;
      tally = sym (none_kept mode);
      text = WritesText-none state AllWritten;
    }

-- one put more
pub Reports-put : {mode : Mode} {records : List Record} {old mid new : SinkState} {before after : ReporterValue} {item : Record}
    {written : Written} → Reports mode records old mid before → PutsRecord before after item mid new written
    → Reports mode (records ++ item ∷ []) old new after
Reports-put {mode = mode} {records = records} {mid = mid} {new = new} {before = before} {item = item} {written = written} r p =
    let text =
    subst (λ s. WritesText mid new (text_of_record mode s item) before.so_far written) r.settings
    (subst (λ m. WritesText mid new (text_of_record m before.settings item) before.so_far written) r.same_mode p.text) in
    rw p.reporter (record {
      same_mode = r.same_mode;
      settings = ap (λ s. settings_after s item) r.settings ∙ sym (settings_so_far-push records item);
      count = ap (λ n. n + 1) r.count ∙ sym (length-append records (item ∷ []));
      tally = rw r.same_mode (ap (λ t. kept_after mode t item) r.tally ∙ sym (kept_of-push mode records item));
      text = rw (texts_after-push mode None records item) (WritesText-then r.text text);
    })

-- the puts of several records
pub Reports-put_all : {mode : Mode} {records : List Record} {old mid new : SinkState} {before after : ReporterValue} {items : List Record}
    {written : Written} → Reports mode records old mid before → PutsAll before after items mid new written
    → Reports mode (records ++ items) old new after
Reports-put_all {mode = mode} {records = records} {mid = mid} {new = new} {before = before} {items = items} {written = written} r p =
    let text =
    subst (λ s. WritesText mid new (texts_after mode s items) before.so_far written) r.settings
    (subst (λ m. WritesText mid new (texts_after m before.settings items) before.so_far written) r.same_mode p.text) in
    rw p.reporter (record {
      same_mode = r.same_mode;
      settings = ap (λ s. fold settings_after s items) r.settings ∙ sym (fold-append settings_after None records items);
      count = ap (λ n. n + length items) r.count ∙ sym (length-append records items);
      tally = rw r.same_mode (ap (λ t. fold (kept_after mode) t items) r.tally ∙ sym (kept_of-append mode records items));
      text = rw (texts_after-append mode None records items) (WritesText-then r.text text);
    })

-- a finish
pub Reports-finish : {mode : Mode} {records : List Record} {old mid new : SinkState} {before after : ReporterValue} {written : Written}
    → Reports mode records old mid before → Finishes before after mid new written
    → WritesText old new (text_of_log mode records) AllWritten written
Reports-finish {mode = mode} {records = records} {mid = mid} {new = new} {before = before} {written = written} r f =
    let last =
    subst (λ t. WritesText mid new (ending mode (settings_so_far records) (numbers_in t)) before.so_far written) r.tally
    (subst (λ s. WritesText mid new (ending mode s (numbers_in before.tally)) before.so_far written) r.settings
    (subst (λ m. WritesText mid new (ending m before.settings (numbers_in before.tally)) before.so_far written) r.same_mode f.text)) in
    WritesText-then r.text (rw (ending-kept mode (settings_so_far records) records) at last)

-- the put of the next record of a log
pub Reports-next : {mode : Mode} {old mid new : SinkState} {before after : ReporterValue} {written : Written} (records : List Record)
    (i : ℕ) (item : Record) → i < length records → item ≡ get_or records i item → Reports mode (take i records) old mid before
    → PutsRecord before after item mid new written → Reports mode (take (i + 1) records) old new after
Reports-next {mode = mode} {old = old} {new = new} {after = after} records i item inside is r p =
    subst (λ l. Reports mode l old new after) (sym (take_next records i item inside is)) (Reports-put r p)

-- after a `Begin` there always are settings
begun : (first : Record) → IsBegin first → (s : SettingsValue) × (settings_after None first ≡ Some s)
begun (Begin settings frames members) h = (settings, refl)
begun item h = cc

still_begun : (settings : SettingsValue) (item : Record) → (s : SettingsValue) × (settings_after (Some settings) item ≡ Some s)
still_begun settings (Begin begun frames members) = (begun, refl)
still_begun settings item = (settings, refl)

always_begun : (records : List Record) (settings : SettingsValue) → IsSome (fold settings_after (Some settings) records)
always_begun [] settings = refl
always_begun (item ∷ items) settings =
    let h = still_begun settings item in rw h.1 (always_begun items h.0)

-- The next record of a log is a `Begin` exactly if none was put before.
pub begins_next : (records : List Record) (i : ℕ) (item : Record) (settings : Option SettingsValue) → BeginsOnce records
    → i < length records
    → item ≡ get_or records i item → settings ≡ fold settings_after None (take i records) → IsBegin item ↔ IsNone settings
begins_next [] i item settings begins inside is so_far = absurd (omega arith)
begins_next (first ∷ rest) zero item settings begins inside is so_far = (λ _. ap is_some so_far, λ _. subst IsBegin (sym is) begins.0)
begins_next (first ∷ rest) (suc i) item settings begins inside is so_far =
    let b = begun first begins.0 in
    let later : i < length rest = omega arith in
    let other = All-get_or (λ x. ¬ IsBegin x) rest i item later begins.1 in
    let some : is_some settings ≡ true =
    ap is_some (so_far ∙ ap (λ s. fold settings_after s (take i rest)) b.1) ∙ always_begun (take i rest) b.0 in
    (λ h. absurd (other (subst IsBegin is h)), λ h. cc)

begins_after : (items : List Record) (settings : Option SettingsValue) → IsSome settings → All (λ item. ¬ IsBegin item) items
    → BeginsAfter settings items
begins_after items None some others = absurd cc
begins_after items (Some settings) some others = others

-- So do the records of a log from a place on, after those before it.
pub BeginsAfter-from : (records : List Record) (from : ℕ) → BeginsOnce records
    → BeginsAfter (fold settings_after None (take from records)) (drop from records)
BeginsAfter-from records zero begins = begins
BeginsAfter-from [] (suc from) begins = tt
BeginsAfter-from (first ∷ rest) (suc from) begins =
    let b = begun first begins.0 in
    let some : IsSome (fold settings_after (settings_after None first) (take from rest)) =
    rw b.1 (always_begun (take from rest) b.0) in
    begins_after (drop from rest) (fold settings_after (settings_after None first) (take from rest)) some
    (All-drop (λ item. ¬ IsBegin item) from rest begins.1)

-- ---- the log that grows while it is printed

-- a log with a beginning alone
pub IsPrintableLog-first : (first : Record) → IsBegin first → IsPrintable None first → IsPrintableLog (first ∷ [])
IsPrintableLog-first first begins printable = record {
  begins = (begins, λ k d inside. absurd (omega arith));
  each = (printable, tt);
}

BeginsOnce-push : (records : List Record) (item : Record) → 0 < length records → ¬ IsBegin item → BeginsOnce records
    → BeginsOnce (records ++ item ∷ [])
BeginsOnce-push [] item some other begins = absurd (omega arith)
BeginsOnce-push (first ∷ rest) item some other begins = (begins.0, All-push (λ x. ¬ IsBegin x) rest item begins.1 other)

-- a log with one record more
pub IsPrintableLog-push : (records : List Record) (item : Record) → 0 < length records → ¬ IsBegin item
    → IsPrintable (settings_so_far records) item
    → IsPrintableLog records → IsPrintableLog (records ++ item ∷ [])
IsPrintableLog-push records item some other printable log = record {
  begins = BeginsOnce-push records item some other log.begins;
  each = ArePrintable-push None records item log.each printable;
}

-- ---- the law

puts_each : (items done : List Record) (mode : Mode) (before after : ReporterValue) (old mid new : SinkState)
    → Reports mode done old mid before → PutsEach items before after mid new → Reports mode (done ++ items) old new after
puts_each [] done mode before after old mid new r p = rw (p.0, p.1, append-nil done) r
puts_each (item ∷ items) done mode before after old mid new r p =
    rw (sym (append_assoc done (item ∷ []) items))
    (puts_each items (done ++ item ∷ []) mode p.0 after old p.1 new (Reports-put r p.3) p.4)

pub puts_write_the_text_of_logs : PutsWriteTheText
puts_write_the_text_of_logs mode records before after old mid new written puts finishes =
    Reports-finish (puts_each records [] mode (new_reporter mode) before old old mid (Reports-new mode old) puts) finishes
