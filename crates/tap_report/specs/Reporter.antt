-- What a reporter keeps, and what its calls do to it, which was `before` and is `after`, and to a sink, whose states are `old` and `new`.
use Rattle.std.specs.Prelude.{◌≡◌, ℕ, ◌+◌, List, [], ◌∷◌, length, fold, Option, None}
use Rattle.tap_name.specs.Settings.{SettingsValue}
use Rattle.tap_io.specs.Sink.{SinkState}
use Rattle.tap_log.specs.declared.record.Record.{Record}
use Rattle.tap_report.specs.Summary.{ending}
use Rattle.tap_report.specs.Printer.{PrinterValue}
use Rattle.tap_report.specs.Tally.{CountsWithin, numbers_in, tally_after, tally_of}
use Rattle.tap_report.specs.Text.{text_of_record, texts_after, text_of_log, settings_so_far}
pub use Rattle.tap_report.specs.Text.{settings_after}
use Rattle.tap_report.specs.Written.{WritesText}
use Rattle.tap_report.specs.declared.mode.Mode.{Mode}
use Rattle.tap_report.specs.declared.mode.Mode.TheVariants.{Long, Brief, Summary}
use Rattle.tap_report.specs.declared.tally.Tally.{Tally}
use Rattle.tap_report.specs.declared.written.Written.{Written}
use Rattle.tap_report.specs.declared.written.Written.TheVariants.{All}

-- how many records may be put to one reporter
abbrev pub most_records : ℕ
most_records = 4000000000

-- The mode, the settings of the `Begin` that was put, how many records were put, what the summary is made from, if the
-- mode has one, and whether all was written.
pub record ReporterValue : Type 0 where
  pub mode : Mode
  pub settings : Option SettingsValue
  pub records : ℕ
  pub tally : Tally
  pub so_far : Written

-- what a reporter keeps beside them: none of its counts is above that of the records, and nothing waits to be written
pub record ReporterIsKept (records : ℕ) (tally : Tally) (printer : PrinterValue) : Type 0 where
  pub counts : CountsWithin records tally
  pub written : printer.waiting ≡ []

-- before the first put
abbrev pub new_reporter : Mode → ReporterValue
new_reporter mode = record { mode = mode; settings = None; records = 0; tally = tally_of []; so_far = All }

-- what is kept for the summary, with one record more: nothing in the modes that have none
abbrev pub kept_after : Mode → Tally → Record → Tally
kept_after Long t item = t
kept_after Brief t item = t
kept_after Summary t item = tally_after t item

-- what is kept of records
abbrev pub kept_of : Mode → List Record → Tally
kept_of Long records = tally_of []
kept_of Brief records = tally_of []
kept_of Summary records = tally_of records

-- after the put of a record, whether it was written or not
abbrev pub after_put : ReporterValue → Record → Written → ReporterValue
after_put r item written =
    record r {
      settings = settings_after r.settings item;
      records = r.records + 1;
      tally = kept_after r.mode r.tally item;
      so_far = written;
    }

-- the put of a record
pub record PutsRecord (before after : ReporterValue) (item : Record) (old new : SinkState) (written : Written) : Type 0 where
  pub text : WritesText old new (text_of_record before.mode before.settings item) before.so_far written
  pub reporter : after ≡ after_put before item written

-- after the puts of several records, which were all written or not
abbrev pub after_puts : ReporterValue → List Record → Written → ReporterValue
after_puts r items written =
    record r {
      settings = fold settings_after r.settings items;
      records = r.records + length items;
      tally = fold (kept_after r.mode) r.tally items;
      so_far = written;
    }

-- the puts of several records, whose texts are written together
pub record PutsAll (before after : ReporterValue) (items : List Record) (old new : SinkState) (written : Written) : Type 0 where
  pub text : WritesText old new (texts_after before.mode before.settings items) before.so_far written
  pub reporter : after ≡ after_puts before items written

-- The finish, which writes what follows the last record: the summary, in the mode Summary.
pub record Finishes (before after : ReporterValue) (old new : SinkState) (written : Written) : Type 0 where
  pub text : WritesText old new (ending before.mode before.settings (numbers_in before.tally)) before.so_far written
  pub reporter : after ≡ record before { so_far = written }

-- the puts of records, one after another
abbrev pub PutsEach : List Record → ReporterValue → ReporterValue → SinkState → SinkState → Type 0
PutsEach [] before after old new = (after ≡ before) × (new ≡ old)
PutsEach (item ∷ items) before after old new =
    (between : ReporterValue) × (mid : SinkState) × (written : Written)
    × PutsRecord before between item old mid written × PutsEach items between after mid new

-- the puts of a log's records and a finish write the text of the log
abbrev pub PutsWriteTheText : Type 0
PutsWriteTheText =
    (mode : Mode) (records : List Record) (before after : ReporterValue) (old mid new : SinkState) (written : Written)
    → PutsEach records (new_reporter mode) before old mid → Finishes before after mid new written
    → WritesText old new (text_of_log mode records) All written

-- How far a reporter and a sink are after the puts of some records, from a new reporter on. A loop over records keeps this.
pub record Reports (mode : Mode) (records : List Record) (old new : SinkState) (reporter : ReporterValue) : Type 0 where
  pub same_mode : reporter.mode ≡ mode
  pub settings : reporter.settings ≡ settings_so_far records
  pub count : reporter.records ≡ length records
  pub tally : reporter.tally ≡ kept_of mode records
  pub text : WritesText old new (texts_after mode None records) All reporter.so_far
