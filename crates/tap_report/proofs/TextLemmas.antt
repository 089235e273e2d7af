-- The texts of items and of records with one more, and what each record must meet.
-- Cited above: ArePrintable-at, lower_digit, same_settings, settings_so_far-push
use Rattle.std.proofs.Common.{◌≡◌, ◌<◌, ◌≤◌, ℕ, zero, suc, ◌+◌, ◌-◌, ◌==◌, ◌&&◌, Bool, inl, inr, List, [], ◌∷◌, ◌++◌, length, take, drop, get_or, Option, None, refl, sym, ap, ◌∙◌, subst, arith, append_assoc, append-nil, take-add}
use Rattle.std.specs.Prelude.{fold, true, false, if◌then◌else◌}
use Rattle.std.specs.Prelude.{◌/◌, ◌%◌, slice_index, slice_range}
use Rattle.std.specs.List.{flat_map}
use Rattle.std.proofs.lemmas.Bool.{and_parts, cases_lt, eqb-true}
use Rattle.std.proofs.lemmas.List.{take_more, get_or_default}
use Rattle.std.proofs.lemmas.List.Concat.{flat_map-append}
use Rattle.hex.specs.Hex.{encode_lower, encode_with, lower_digits}
use Rattle.std.proofs.lemmas.List.Sums.{fold-append}
use Rattle.tap_name.specs.Digits.{text_of_digit}
use Rattle.tap_name.specs.Settings.{SettingsValue}
use Rattle.tap_log.specs.declared.record.Record.{Record}
use Rattle.tap_log.specs.declared.record.Record.TheVariants.{Begin}
use Rattle.tap_report.specs.Shapes.{line}
use Rattle.tap_report.specs.Lookups.{node_on_path}
use Rattle.tap_report.specs.Text.{IsBegin, IsPrintable, ArePrintable, further_lines, is_printed, line_of, text_of_record, texts_after, settings_after, settings_so_far}
use Rattle.tap_report.specs.declared.mode.Mode.{Mode}

-- a record that isn't printed has no lines
pub no_lines_of_record : (mode : Mode) (settings : Option SettingsValue) (item : Record) → is_printed mode item ≡ false
    → text_of_record mode settings item ≡ []
no_lines_of_record mode settings item printed = ap (λ b. if b then line (line_of settings item) ++ further_lines mode item else []) printed

-- the first items of a list, with the next one
pub take_next : {X : Type 0} (xs : List X) (i : ℕ) (x : X) → i < length xs → x ≡ get_or xs i x → take (i + 1) xs ≡ take i xs ++ x ∷ []
take_next xs i x inside is = take_more xs i x inside ∙ ap (λ y. take i xs ++ y ∷ []) (sym is)

pub settings_so_far-push : (records : List Record) (item : Record)
    → settings_so_far (records ++ item ∷ []) ≡ settings_after (settings_so_far records) item
settings_so_far-push records item = fold-append settings_after None records (item ∷ [])

-- only a beginning changes the settings
pub same_settings : (settings : Option SettingsValue) (item : Record) → ¬ IsBegin item → settings_after settings item ≡ settings
same_settings settings (Begin begun frames members) other = absurd (other refl)
same_settings settings item other = refl

pub texts_after-push : (mode : Mode) (settings : Option SettingsValue) (records : List Record) (item : Record)
    → texts_after mode settings (records ++ item ∷ []) ≡ texts_after mode settings records
    ++ text_of_record mode (fold settings_after settings records) item
texts_after-push mode settings [] item = append-nil (text_of_record mode settings item)
texts_after-push mode settings (first ∷ rest) item =
    ap (λ l. text_of_record mode settings first ++ l) (texts_after-push mode (settings_after settings first) rest item)
    ∙ sym (append_assoc (text_of_record mode settings first) (texts_after mode (settings_after settings first) rest)
    (text_of_record mode (fold settings_after (settings_after settings first) rest) item))

-- the texts of records and of others after them
pub texts_after-append : (mode : Mode) (settings : Option SettingsValue) (records items : List Record)
    → texts_after mode settings (records ++ items) ≡ texts_after mode settings records
    ++ texts_after mode (fold settings_after settings records) items
texts_after-append mode settings [] items = refl
texts_after-append mode settings (first ∷ rest) items =
    ap (λ l. text_of_record mode settings first ++ l) (texts_after-append mode (settings_after settings first) rest items)
    ∙ sym (append_assoc (text_of_record mode settings first) (texts_after mode (settings_after settings first) rest)
    (texts_after mode (fold settings_after (settings_after settings first) rest) items))

-- each record of a log is printable with the settings before it
pub ArePrintable-at : (settings : Option SettingsValue) (records : List Record) (i : ℕ) (item : Record) → ArePrintable settings records
    → i < length records → item ≡ get_or records i item → IsPrintable (fold settings_after settings (take i records)) item
ArePrintable-at settings [] i item each inside is = absurd (omega arith)
ArePrintable-at settings (first ∷ rest) zero item each inside is = subst (IsPrintable settings) (sym is) each.0
ArePrintable-at settings (first ∷ rest) (suc i) item each inside is =
    ArePrintable-at (settings_after settings first) rest i item each.1 (omega arith) is

-- the records of a log from a place on are printable with the settings before them
pub ArePrintable-from : (settings : Option SettingsValue) (records : List Record) (from : ℕ) → ArePrintable settings records
    → ArePrintable (fold settings_after settings (take from records)) (drop from records)
ArePrintable-from settings records zero each = each
ArePrintable-from settings [] (suc from) each = each
ArePrintable-from settings (first ∷ rest) (suc from) each = ArePrintable-from (settings_after settings first) rest from each.1

pub ArePrintable-push : (settings : Option SettingsValue) (records : List Record) (item : Record) → ArePrintable settings records
    → IsPrintable (fold settings_after settings records) item → ArePrintable settings (records ++ item ∷ [])
ArePrintable-push settings [] item each printable = (printable, tt)
ArePrintable-push settings (first ∷ rest) item each printable =
    (each.0, ArePrintable-push (settings_after settings first) rest item each.1 printable)

-- ---- the items of a list, one after another

-- the texts of one item more
pub flat_map-take_more : {X : Type 0} (f : X → List ℕ) (xs : List X) (i : ℕ) (x : X) → i < length xs → x ≡ get_or xs i x
    → flat_map f (take (i + 1) xs) ≡ flat_map f (take i xs) ++ f x
flat_map-take_more f xs i x inside is =
    ap (flat_map f) (take_next xs i x inside is) ∙ flat_map-append f (take i xs) (x ∷ [])
    ∙ ap (λ l. flat_map f (take i xs) ++ l) (append-nil (f x))

-- the node that stands at a place of a path
pub node_at-is : (path : List (List ℕ)) (place : ℕ) (node : List ℕ) → place < length path → node ≡ get_or path place node
    → node ≡ node_on_path path place
node_at-is path place node inside is = is ∙ get_or_default path place node [] inside

-- ---- bytes in hexadecimal

encode_lower-append : (bytes more : List ℕ) → encode_lower (bytes ++ more) ≡ encode_lower bytes ++ encode_lower more
unfolding encode_with
encode_lower-append [] more = refl
encode_lower-append (byte ∷ bytes) more =
    ap (λ l. slice_index lower_digits (byte / 16) ∷ slice_index lower_digits (byte % 16) ∷ l) (encode_lower-append bytes more)

-- those up to a place, and a piece after them
pub encode_lower-piece : (bytes : List ℕ) (from to : ℕ) → from ≤ to
    → encode_lower (take to bytes) ≡ encode_lower (take from bytes) ++ encode_lower (slice_range bytes from to)
encode_lower-piece bytes from to later =
    let length_of_piece : to ≡ from + (to - from) = omega arith in
    ap (λ n. encode_lower (take n bytes)) length_of_piece ∙ ap encode_lower (take-add from (to - from) bytes)
    ∙ encode_lower-append (take from bytes) (slice_range bytes from to)

-- whether a digit is printed as the one at its place
abbrev is_at_place : ℕ → Bool
is_at_place d = text_of_digit d == slice_index lower_digits d

-- whether each of the first ones is
abbrev are_at_places : ℕ → Bool
are_at_places zero = true
are_at_places (suc n) = is_at_place n && are_at_places n

at_place : (n d : ℕ) → are_at_places n ≡ true → d < n → is_at_place d ≡ true
at_place zero d all below = absurd (omega arith)
at_place (suc n) d all below =
    let parts = and_parts (is_at_place n) (are_at_places n) all in
    elim (cases_lt d n) [
      | inl less ↦ at_place n d parts.1 less
      | inr last ↦
          let e : d ≡ n = omega arith in
          rw e parts.0
    ]

-- a hexadecimal digit is printed as a digit of a name
pub lower_digit : (d : ℕ) → d < 16 → text_of_digit d ≡ slice_index lower_digits d
lower_digit d below = eqb-true (text_of_digit d) (slice_index lower_digits d) (at_place 16 d refl below)
