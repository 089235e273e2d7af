-- A reader takes each text of a shape's lines, and ends with the shape.
use Rattle.std.proofs.Common.{◌≡◌, inl, inr, ℕ, ◌≤◌, All, List, [], ◌∷◌, ◌++◌, length, Some, option_map, refl, ap, sym, subst, ◌∙◌, arith, append-nil, append_assoc, length-append}
use Rattle.std.proofs.lemmas.List.{map-append}
use Rattle.std.specs.List.{AllByRecursion}
use Rattle.std.proofs.lemmas.List.Elements.{filter_map-append, recursion_from_All}
use Rattle.tap_name.specs.Settings.{AreWithinLimits, SettingsValue}
use Rattle.tap_scenario.specs.Scenario.{IsScript, most_steps}
use Rattle.tap_log.specs.declared.record.Record.{Record}
use Rattle.tap_log.specs.declared.record.Record.TheVariants as item
use Rattle.tap_log.specs.Kinds.{is_carried, step_of}
use Rattle.tap_log.specs.Log.{begun_steps}
use Rattle.tap_log.proofs.MoreRecords.{carried_alone, carried_second, carried_third}
use Rattle.tap_line.specs.declared.line.Line.{Line}
use Rattle.tap_line.specs.declared.line.Line.TheVariants as line
use Rattle.tap_line.specs.Line.{text_of_line}
use Rattle.tap_shape.specs.declared.reader.Begun.{Begun}
use Rattle.tap_shape.specs.declared.reader.Open.{Open}
use Rattle.tap_shape.specs.declared.reader.Open.TheVariants.{Members, Ready, Links, Pairs, Over}
use Rattle.tap_shape.specs.Reader.{HasBegun, Reader, after, closed, closed_with, ended, finished}
use Rattle.tap_shape.specs.Shape.{IsShape, IsShaped}
use Rattle.tap_shape.specs.Text.{IsTextOf, last_line}
use Rattle.tap_shape.proofs.Accepts.{Closes, begin_closes, one_text, record_closes, start, taken-append, texts_taken}
use Rattle.tap_shape.proofs.Lines.{end_unfed, lines_of_log, lines_of_record, log_text, log_unfed, texts_of}
use Rattle.tap_shape.proofs.Texts.{AreUnfed, fed, fed-append, unfed-append}
use Rattle.tap_shape.proofs.Valid.{closed_carried}

-- ---- one record after the other

-- each may stand after those before it, and there aren't too many steps
abbrev GoOn : SettingsValue → List Record → List Record → Type 0
GoOn p done [] = Unit {0}
GoOn p done (entry ∷ items) =
    IsShaped p (is_carried done) entry × (length (begun_steps (done ++ entry ∷ [])) ≤ most_steps) × GoOn p (done ++ entry ∷ []) items

-- some lines and then others
taken_both : (p : SettingsValue) (r next last : Reader) (lines more : List Line) → texts_taken (Some r) (texts_of p lines) ≡ Some next
    → texts_taken (Some next) (texts_of p more) ≡ Some last → texts_taken (Some r) (texts_of p (lines ++ more)) ≡ Some last
taken_both p r next last lines more taken later =
    ap (texts_taken (Some r)) (map-append (text_of_line p) lines more) ∙ taken-append (Some r) (texts_of p lines) (texts_of p more)
    ∙ ap (λ o. texts_taken o (texts_of p more)) taken ∙ later

items_close : (p : SettingsValue) (r : Begun) (done items : List Record) → AreWithinLimits p → r.settings ≡ p → closed r ≡ Some done
    → r.steps ≡ length (begun_steps done) → GoOn p done items
    → Closes p (HasBegun r) (texts_of p (lines_of_log items)) (done ++ items)
items_close p r done [] limits same closes counted go = record {
  next = r;
  taken = refl;
  settings = same;
  closes = closes ∙ ap Some (sym (append-nil done));
  steps = counted ∙ ap (λ l. length (begun_steps l)) (sym (append-nil done));
}
items_close p r done (entry ∷ items) limits same closes counted go =
    let carried = closed_carried r.settings r.records done r.pending closes in
    let shaped : IsShaped r.settings (is_carried r.records) entry =
    subst (λ s. IsShaped s (is_carried r.records) entry) (sym same) (subst (λ c. IsShaped p c entry) carried go.0) in
    let own : AreWithinLimits r.settings = subst AreWithinLimits (sym same) limits in
    let one : Closes p (HasBegun r) (texts_of p (lines_of_record entry)) (done ++ entry ∷ []) =
    subst (λ s. Closes s (HasBegun r) (texts_of s (lines_of_record entry)) (done ++ entry ∷ [])) same
    (record_closes r done own closes counted entry shaped go.1) in
    let rest = items_close p one.next (done ++ entry ∷ []) items limits one.settings one.closes one.steps go.2 in
    record {
      next = rest.next;
      taken = taken_both p (HasBegun r) (HasBegun one.next) (HasBegun rest.next) (lines_of_record entry) (lines_of_log items)
          one.taken rest.taken;
      settings = rest.settings;
      closes = rest.closes ∙ ap Some (append_assoc done (entry ∷ []) items);
      steps = rest.steps ∙ ap (λ l. length (begun_steps l)) (append_assoc done (entry ∷ []) items);
    }

-- there aren't more steps among fewer records
fewer_steps : (done : List Record) (entry : Record) (items : List Record) → length (begun_steps (done ++ entry ∷ items)) ≤ most_steps
    → length (begun_steps (done ++ entry ∷ [])) ≤ most_steps
fewer_steps done entry items few =
    let whole = ap (λ l. length (begun_steps l)) (append_assoc done (entry ∷ []) items) in
    let split = ap length (filter_map-append step_of (done ++ entry ∷ []) items)
    ∙ length-append (begun_steps (done ++ entry ∷ [])) (begun_steps items) in
    omega (arith, few, whole, split)

later_go : (p : SettingsValue) (first second : Record) (done items : List Record)
    → AllByRecursion (IsShaped p (is_carried (first ∷ second ∷ []))) items
    → length (begun_steps ((first ∷ second ∷ done) ++ items)) ≤ most_steps → GoOn p (first ∷ second ∷ done) items
later_go p first second done [] all few = tt
later_go p first second done (entry ∷ items) all few = (
  subst (λ c. IsShaped p c entry) (carried_third first second [] done) all.0,
  fewer_steps (first ∷ second ∷ done) entry items few,
  later_go p first second (done ++ entry ∷ []) items all.1
      (subst (λ l. length (begun_steps l) ≤ most_steps) (sym (append_assoc (first ∷ second ∷ done) (entry ∷ []) items)) few),
)

-- the second record may stand there before it is known whether the log is carried
second_alone : (p : SettingsValue) (first entry : Record) → IsShaped p (is_carried (first ∷ entry ∷ [])) entry
    → IsShaped p (is_carried (first ∷ [])) entry
unfolding IsShaped
second_alone p first item.Carrier shaped = tt
second_alone p first entry shaped =
    subst (λ c. IsShaped p c entry) (carried_second first entry (λ same. absurd (cc)) ∙ sym (carried_alone first)) shaped

all_go : (p : SettingsValue) (first : Record) (items : List Record) → AllByRecursion (IsShaped p (is_carried (first ∷ items))) items
    → length (begun_steps (first ∷ items)) ≤ most_steps → GoOn p (first ∷ []) items
all_go p first [] all few = tt
all_go p first (second ∷ items) all few =
    let same = carried_third first second items [] in (
      second_alone p first second (subst (λ c. IsShaped p c second) same all.0),
      fewer_steps (first ∷ []) second items few,
      later_go p first second [] items (subst (λ c. AllByRecursion (IsShaped p c) items) same all.1) few,
    )

-- ---- the whole log

begun_closes : (p : SettingsValue) (frames : ℕ) (members : List (List ℕ)) (items : List Record)
    → IsScript (record { settings = p; frames = frames; carrier = is_carried (item.Begin p frames members ∷ items); members = members; steps = [] })
    → length (begun_steps (item.Begin p frames members ∷ items)) ≤ most_steps
    → AllByRecursion (IsShaped p (is_carried (item.Begin p frames members ∷ items))) items
    → Closes p start (texts_of p (lines_of_log (item.Begin p frames members ∷ items))) (item.Begin p frames members ∷ items)
begun_closes p frames members items valid few all =
    let first = item.Begin p frames members in
    let one = begin_closes p (is_carried (first ∷ items)) frames members valid in
    let rest = items_close p one.next (first ∷ []) items valid.settings one.settings one.closes one.steps (all_go p first items all few) in
    record {
      next = rest.next;
      taken = taken_both p start (HasBegun one.next) (HasBegun rest.next) (lines_of_record first) (lines_of_log items) one.taken rest.taken;
      settings = rest.settings;
      closes = rest.closes;
      steps = rest.steps;
    }

shape_closes : (log : List Record) (shape : IsShape log) → Closes shape.settings start (texts_of shape.settings (lines_of_log log)) log
shape_closes log shape =
    let p = shape.settings in
    let frames = shape.frames in
    let members = shape.members in
    subst (λ l. Closes p start (texts_of p (lines_of_log l)) l) (sym shape.is)
    (begun_closes p frames members shape.items
    (subst (λ l. IsScript (record { settings = p; frames = frames; carrier = is_carried l; members = members; steps = [] })) shape.is shape.valid)
    (subst (λ l. length (begun_steps l) ≤ most_steps) shape.is shape.few)
    (recursion_from_All (IsShaped p (is_carried (item.Begin p frames members ∷ shape.items))) shape.items
    (subst (λ l. All (IsShaped p (is_carried l)) shape.items) shape.is shape.shaped)))

closed_finishes : (p : SettingsValue) (records log : List Record) (steps : ℕ) (pending : Open) → closed_with p records pending ≡ Some log
    → finished (record { settings = p; records = records; steps = steps; pending = pending }) ≡ Some log
closed_finishes p records log steps (Members frames members) is = is
closed_finishes p records log steps Ready is = is
closed_finishes p records log steps (Links name status links left) is = is
closed_finishes p records log steps (Pairs name pairs left) is = is
closed_finishes p records log steps Over is = absurd (cc)

-- the texts of the lines of a log's text, each of which the reader takes
pub record Finishes (bytes : List ℕ) (log : List Record) : Type 0 where
  pub texts : List (List ℕ)
  pub unfed : AreUnfed texts
  pub are : bytes ≡ fed texts
  pub next : Reader
  pub taken : texts_taken (Some start) texts ≡ Some next
  pub ends : ended next [] ≡ Some log

pub text_finishes : (bytes : List ℕ) (log : List Record) → IsTextOf bytes log → Finishes bytes log
text_finishes bytes log is =
    let shape = is.shape in
    let p = shape.settings in
    let texts = texts_of p (lines_of_log log) in
    let all = shape_closes log shape in
    let next = all.next in
    let last = text_of_line p line.End in
    elim is.text [
      | inl same ↦ record {
        texts = texts;
        unfed = log_unfed log shape;
        are = same ∙ log_text log shape;
        next = HasBegun next;
        taken = all.taken;
        ends = closed_finishes next.settings next.records log next.steps next.pending all.closes;
      }
      | inr same ↦ record {
        texts = texts ++ last ∷ [];
        unfed = unfed-append texts (last ∷ []) (log_unfed log shape) (end_unfed p shape.valid.settings, tt);
        are = same ∙ ap (λ t. t ++ last_line) (log_text log shape) ∙ sym (fed-append texts (last ∷ []));
        next = HasBegun (after next next.steps Over log);
        taken = taken-append (Some start) texts (last ∷ []) ∙ ap (λ o. texts_taken o (last ∷ [])) all.taken
            ∙ ap (λ o. texts_taken o [])
            (one_text next line.End (subst AreWithinLimits (sym all.settings) shape.valid.settings) tt
            ∙ ap (λ o. option_map HasBegun (option_map (after next next.steps Over) o)) all.closes);
        ends = refl;
      }
    ]
