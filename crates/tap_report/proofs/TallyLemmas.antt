-- What the summary is made from, with one record more.
use Rattle.std.proofs.Common.{◌≡◌, ◌≤◌, ℕ, ◌+◌, List, [], ◌∷◌, ◌++◌, length, true, false, Bool, Option, None, Some, refl, ap, sym, ◌∙◌, arith, length-append, append_assoc, append-nil, suc}
use Rattle.std.specs.Prelude.{cond, fold, is_some, max}
use Rattle.std.specs.List.{filter_map}
use Rattle.std.proofs.lemmas.List.Sums.{fold-append}
use Rattle.tap_name.specs.Settings.{SettingsValue}
use Rattle.tap_log.specs.declared.record.Record.{Record}
use Rattle.tap_log.specs.Kinds.{core_name, sent_number}
use Rattle.tap_log.specs.MoreRecords.{at_most_one}
use Rattle.tap_log.proofs.MoreRecords.{filter_map-push}
use Rattle.tap_report.specs.Summary.{ending, finds_server, hops_in, is_gone, numbers_of}
use Rattle.tap_report.specs.Tally.{CountsWithin, departure_accepted_after, departures_after, departures_known, is_core_record, is_sent, numbers_in, opening_after, opens_carried, tally_after, tally_of}
use Rattle.tap_report.specs.Reporter.{kept_after, kept_of}
use Rattle.tap_report.specs.declared.mode.Mode.{Mode}
use Rattle.tap_report.specs.declared.mode.Mode.TheVariants.{Long, Brief, Summary}
use Rattle.tap_report.specs.declared.opening.Opening.TheVariants.{Nothing}
use Rattle.tap_report.specs.declared.tally.Tally.{Tally}
use Rattle.tap_report.proofs.DepartedLemmas.{departures-push, members-push, opening_tells}

counts_one : {Y : Type 0} (one : Option Y) → length (at_most_one one) ≡ cond (is_some one) 1 0
counts_one None = refl
counts_one (Some y) = refl

-- how many records say something, with one record more
told_count-push : {Y : Type 0} (h : Record → Option Y) (log : List Record) (item : Record)
    → length (filter_map h (log ++ item ∷ [])) ≡ length (filter_map h log) + cond (is_some (h item)) 1 0
told_count-push h log item =
    ap length (filter_map-push h log item) ∙ length-append (filter_map h log) (at_most_one (h item))
    ∙ ap (λ n. length (filter_map h log) + n) (counts_one (h item))

known-push : (log : List Record) (item : Record)
    → departures_known (log ++ item ∷ []) ≡ departures_after (opens_carried (tally_of log).opening) (departures_known log) item
known-push log item = departures-push log item ∙ ap (λ b. departures_after b (departures_known log) item) (sym (opening_tells log))

pub tally_of-push : (records : List Record) (item : Record) → tally_of (records ++ item ∷ []) ≡ tally_after (tally_of records) item
tally_of-push records item =
    rw (
      fold-append opening_after Nothing records (item ∷ []),
      members-push records item,
      told_count-push core_name records item,
      known-push records item,
      told_count-push sent_number records item,
      fold-append (λ n x. max n (hops_in x)) 0 records (item ∷ []),
      fold-append (λ n x. n + cond (finds_server x) 1 0) 0 records (item ∷ []),
    )

one : (b : Bool) → cond {A = ℕ} b 1 0 ≤ 1
one true = omega arith
one false = omega arith

-- one record more counts once at most
pub CountsWithin-after : (most : ℕ) (t : Tally) (item : Record) → CountsWithin most t → CountsWithin (most + 1) (tally_after t item)
CountsWithin-after most t item w =
    let core = one (is_core_record item) in
    let gone = one (is_gone (departure_accepted_after (opens_carried t.opening) t.departures item) item) in
    let frames = one (is_sent item) in
    let answered = one (finds_server item) in
    record {
      core = omega (arith, w.core, core);
      gone = omega (arith, w.gone, gone);
      frames = omega (arith, w.frames, frames);
      answered = omega (arith, w.answered, answered);
    }

-- a greater number does
pub CountsWithin-more : (most more : ℕ) (t : Tally) → most ≤ more → CountsWithin most t → CountsWithin more t
CountsWithin-more most more t greater w = record {
  core = omega (arith, w.core);
  gone = omega (arith, w.gone);
  frames = omega (arith, w.frames);
  answered = omega (arith, w.answered);
}

-- the same of what is kept in a mode
pub CountsWithin-kept : (mode : Mode) (most : ℕ) (t : Tally) (item : Record) → CountsWithin most t
    → CountsWithin (most + 1) (kept_after mode t item)
CountsWithin-kept Long most t item w = CountsWithin-more most (most + 1) t (omega arith) w
CountsWithin-kept Brief most t item w = CountsWithin-more most (most + 1) t (omega arith) w
CountsWithin-kept Summary most t item w = CountsWithin-after most t item w

-- several records more count once each at most
pub CountsWithin-fold : (mode : Mode) (most : ℕ) (t : Tally) (items : List Record) → CountsWithin most t
    → CountsWithin (most + length items) (fold (kept_after mode) t items)
CountsWithin-fold mode most t [] w = CountsWithin-more most (most + 0) t (omega arith) w
CountsWithin-fold mode most t (item ∷ items) w =
    CountsWithin-more (most + 1 + length items) (most + suc (length items)) _ (omega arith)
    (CountsWithin-fold mode (most + 1) (kept_after mode t item) items (CountsWithin-kept mode most t item w))

-- what is kept of some records and then of others is what is kept of both
pub tally_of-append : (records items : List Record) → tally_of (records ++ items) ≡ fold tally_after (tally_of records) items
tally_of-append records [] = ap tally_of (append-nil records)
tally_of-append records (item ∷ items) =
    ap tally_of (sym (append_assoc records (item ∷ []) items)) ∙ tally_of-append (records ++ item ∷ []) items
    ∙ ap (λ t. fold tally_after t items) (tally_of-push records item)

-- where nothing is kept, what was kept stays
pub nothing_kept : (t : Tally) (items : List Record) → fold (λ x item. x) t items ≡ t
nothing_kept t [] = refl
nothing_kept t (item ∷ items) = nothing_kept t items

-- the same of what is kept in a mode
pub kept_of-append : (mode : Mode) (records items : List Record)
    → kept_of mode (records ++ items) ≡ fold (kept_after mode) (kept_of mode records) items
kept_of-append Long records items = sym (nothing_kept (tally_of []) items)
kept_of-append Brief records items = sym (nothing_kept (tally_of []) items)
kept_of-append Summary records items = tally_of-append records items

pub kept_of-push : (mode : Mode) (records : List Record) (item : Record)
    → kept_of mode (records ++ item ∷ []) ≡ kept_after mode (kept_of mode records) item
kept_of-push mode records item = kept_of-append mode records (item ∷ [])

pub none_kept : (mode : Mode) → kept_of mode [] ≡ tally_of []
none_kept Long = refl
none_kept Brief = refl
none_kept Summary = refl

-- what is kept tells what stands after the last record
pub ending-kept : (mode : Mode) (settings : Option SettingsValue) (records : List Record)
    → ending mode settings (numbers_in (kept_of mode records)) ≡ ending mode settings (numbers_of records)
ending-kept Long settings records = refl
ending-kept Brief settings records = refl
ending-kept Summary settings records = refl
