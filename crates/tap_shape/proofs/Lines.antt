-- The lines of a record and of a log: its text is theirs, each with a line feed, and they have none of their own.
use Rattle.std.proofs.Common.{◌≡◌, ℕ, ◌<◌, ◌≤◌, ◌^◌, All, Bool, false, List, [], ◌∷◌, ◌++◌, map, length, None, Some, Option, refl, ap, sym, subst, ◌∙◌, arith, inl, inr, append-nil, append_assoc}
use Rattle.std.proofs.lemmas.List.{map-append}
use Rattle.std.specs.Prelude.{flat_map, nat_le}
use Rattle.std.specs.List.{AllByRecursion}
use Rattle.std.proofs.lemmas.Bool.{cases_Bool}
use Rattle.std.proofs.lemmas.List.Elements.{recursion_from_All}
use Rattle.tap_name.specs.Settings.{AreWithinLimits, SettingsValue}
use Rattle.tap_name.specs.Name.{IsName}
use Rattle.tap_scenario.specs.Scenario.{most_frames}
use Rattle.tap_log.specs.declared.record.Record.{Record}
use Rattle.tap_log.specs.declared.record.Record.TheVariants.{Begin, TableOf, PointersOf}
use Rattle.tap_log.specs.Kinds.{is_carried}
use Rattle.tap_report.specs.Shapes.{line as ended}
use Rattle.tap_report.specs.Starts.{begin_line, member_line, member_lines}
use Rattle.tap_report.specs.Tables.{link_lines, pointer_line, pointer_lines, pointers_line, table_line, text_of_link}
use Rattle.tap_report.specs.Text.{settings_after, text_of_log, text_of_record, texts_after}
use Rattle.tap_report.specs.declared.mode.Mode.TheVariants.{Long}
use Rattle.tap_report.proofs.TextLemmas.{same_settings}
use Rattle.tap_line.specs.declared.line.Line.{Line}
use Rattle.tap_line.specs.declared.line.Line.TheVariants as line
use Rattle.tap_line.specs.Laws.{HasNoFeed}
use Rattle.tap_line.specs.Line.{IsLine, IsLink, text_of_line}
use Rattle.tap_line.proofs.Exact.{lines_are_told}
use Rattle.tap_shape.specs.Shape.{IsPair, IsShape, IsShaped}
use Rattle.tap_shape.proofs.Printing.{no_begin}
use Rattle.tap_shape.proofs.Texts.{AreUnfed, fed, fed-append}

-- ---- the lines

-- the lines of a record: a beginning, a table and pointers have more than one
unfoldable pub lines_of_record : Record → List Line
lines_of_record (Begin settings frames members) = line.Begin (record { settings = settings; frames = frames }) ∷ map line.Member members
lines_of_record (TableOf name status links) = line.Table name status (length links) ∷ map line.Link links
lines_of_record (PointersOf name pairs) = line.Pointers name (length pairs) ∷ map line.Pointer pairs
lines_of_record entry = line.Whole entry ∷ []

-- those of a log
abbrev pub lines_of_log : List Record → List Line
lines_of_log log = flat_map lines_of_record log

-- the texts of lines
abbrev pub texts_of : SettingsValue → List Line → List (List ℕ)
texts_of p lines = map (text_of_line p) lines

-- ---- the text of a log is that of its lines

fed_lines : {A : Type 0} (p : SettingsValue) (make : A → Line) (text : A → List ℕ) → ((a : A) → text a ≡ ended (text_of_line p (make a)))
    → (xs : List A) → fed (texts_of p (map make xs)) ≡ flat_map text xs
fed_lines p make text is [] = refl
fed_lines p make text is (a ∷ xs) =
    ap (λ l. text_of_line p (make a) ++ 10 ∷ l) (fed_lines p make text is xs)
    ∙ sym (append_assoc (text_of_line p (make a)) (10 ∷ []) (flat_map text xs)) ∙ ap (λ l. l ++ flat_map text xs) (sym (is a))

-- a line and further ones
further : (first : List ℕ) (more others : List ℕ) → more ≡ others → first ++ 10 ∷ more ≡ ended first ++ others
further first more others is = ap (λ l. first ++ 10 ∷ l) is ∙ sym (append_assoc first (10 ∷ []) others)

module _ (p : SettingsValue) where
  pub begin_text : (settings : Option SettingsValue) (frames : ℕ) (members : List (List ℕ))
      → text_of_record Long settings (Begin p frames members) ≡ fed (texts_of p (lines_of_record (Begin p frames members)))
  unfolding lines_of_record
  begin_text settings frames members =
      sym (further (begin_line p frames) (fed (texts_of p (map line.Member members))) (member_lines members)
      (fed_lines p line.Member member_line (λ name. refl) members))

  record_text : (carrier : Bool) (entry : Record) → IsShaped p carrier entry
      → text_of_record Long (Some p) entry ≡ fed (texts_of p (lines_of_record entry))
  unfolding lines_of_record IsShaped
  record_text carrier (Begin settings frames members) is = absurd is
  record_text carrier (TableOf name status links) is =
      sym (further (table_line name status (length links)) (fed (texts_of p (map line.Link links))) (link_lines links)
      (fed_lines p line.Link text_of_link (λ link. refl) links))
  record_text carrier (PointersOf name pairs) is =
      sym (further (pointers_line name (length pairs)) (fed (texts_of p (map line.Pointer pairs))) (pointer_lines pairs)
      (fed_lines p line.Pointer pointer_line (λ pair. refl) pairs))
  record_text carrier entry is = append-nil (text_of_line p (line.Whole entry) ++ 10 ∷ [])

  items_text : (carrier : Bool) (items : List Record) → AllByRecursion (IsShaped p carrier) items
      → texts_after Long (Some p) items ≡ fed (texts_of p (lines_of_log items))
  items_text carrier [] all = refl
  items_text carrier (entry ∷ items) all =
      let same : settings_after (Some p) entry ≡ Some p = same_settings (Some p) entry (no_begin p carrier entry all.0) in
      ap (λ s. text_of_record Long (Some p) entry ++ texts_after Long s items) same
      ∙ ap (λ l. text_of_record Long (Some p) entry ++ l) (items_text carrier items all.1)
      ∙ ap (λ l. l ++ fed (texts_of p (lines_of_log items))) (record_text carrier entry all.0)
      ∙ sym (fed-append (texts_of p (lines_of_record entry)) (texts_of p (lines_of_log items)))
      ∙ ap fed (sym (map-append (text_of_line p) (lines_of_record entry) (lines_of_log items)))

begun_text : (p : SettingsValue) (carrier : Bool) (frames : ℕ) (members : List (List ℕ)) (items : List Record)
    → AllByRecursion (IsShaped p carrier) items
    → text_of_log Long (Begin p frames members ∷ items) ≡ fed (texts_of p (lines_of_log (Begin p frames members ∷ items)))
begun_text p carrier frames members items all =
    let first = lines_of_record (Begin p frames members) in
    append-nil (texts_after Long None (Begin p frames members ∷ items))
    ∙ ap (λ l. text_of_record Long None (Begin p frames members) ++ l) (items_text p carrier items all)
    ∙ ap (λ l. l ++ fed (texts_of p (lines_of_log items))) (begin_text p None frames members)
    ∙ sym (fed-append (texts_of p first) (texts_of p (lines_of_log items)))
    ∙ ap fed (sym (map-append (text_of_line p) first (lines_of_log items)))

-- the text of a shape is that of its lines
pub log_text : (log : List Record) (shape : IsShape log) → text_of_log Long log ≡ fed (texts_of shape.settings (lines_of_log log))
log_text log shape =
    let p = shape.settings in
    ap (text_of_log Long) shape.is
    ∙ begun_text p (is_carried log) shape.frames shape.members shape.items
    (recursion_from_All (IsShaped p (is_carried log)) shape.items shape.shaped)
    ∙ ap (λ l. fed (texts_of p (lines_of_log l))) (sym shape.is)

-- ---- each line of a shape is one

module _ (p : SettingsValue) (carrier : Bool) where
  mapped_fit : {A : Type 0} (P : A → Type 0) (make : A → Line) → ((a : A) → P a → IsLine p carrier (make a)) → (xs : List A)
      → AllByRecursion P xs → AllByRecursion (IsLine p carrier) (map make xs)
  mapped_fit P make fits [] all = tt
  mapped_fit P make fits (a ∷ xs) all = (fits a all.0, mapped_fit P make fits xs all.1)

  pub begin_fits : (frames : ℕ) (members : List (List ℕ)) → AreWithinLimits p → frames < 2 ^ 32 → All (IsName p) members
      → AllByRecursion (IsLine p carrier) (lines_of_record (Begin p frames members))
  unfolding lines_of_record
  begin_fits frames members limits few names = (
    record { limits = limits; frames = few },
    mapped_fit (IsName p) line.Member (λ name is. is) members (recursion_from_All (IsName p) members names),
  )

  pub record_fits : (entry : Record) → IsShaped p carrier entry → AllByRecursion (IsLine p carrier) (lines_of_record entry)
  unfolding lines_of_record IsShaped
  record_fits (Begin settings frames members) is = absurd is
  record_fits (TableOf name status links) is = (
    (is.0, is.1.few),
    mapped_fit (IsLink p) line.Link (λ link fits. fits) links (recursion_from_All (IsLink p) links is.1.each),
  )
  record_fits (PointersOf name pairs) is = (
    (is.0, is.1.few),
    mapped_fit (IsPair p) line.Pointer (λ pair fits. fits) pairs (recursion_from_All (IsPair p) pairs is.1.each),
  )
  record_fits entry is = (is, tt)

  fit-append : (xs ys : List Line) → AllByRecursion (IsLine p carrier) xs → AllByRecursion (IsLine p carrier) ys
      → AllByRecursion (IsLine p carrier) (xs ++ ys)
  fit-append [] ys all also = also
  fit-append (x ∷ xs) ys all also = (all.0, fit-append xs ys all.1 also)

  items_fit : (items : List Record) → AllByRecursion (IsShaped p carrier) items → AllByRecursion (IsLine p carrier) (lines_of_log items)
  items_fit [] all = tt
  items_fit (entry ∷ items) all =
      fit-append (lines_of_record entry) (lines_of_log items) (record_fits entry all.0) (items_fit items all.1)

  lines_unfed : AreWithinLimits p → (lines : List Line) → AllByRecursion (IsLine p carrier) lines → AreUnfed (texts_of p lines)
  lines_unfed limits [] all = tt
  lines_unfed limits (l ∷ lines) all = (lines_are_told.no_feed p carrier l limits all.0, lines_unfed limits lines all.1)

-- so many frames are few
pub frames_few : (frames digits : ℕ) → frames ≤ most_frames digits → frames < 2 ^ 32
frames_few frames digits to =
    elim (cases_Bool (nat_le digits 8)) [
      | inl small ↦ (let most : frames ≤ 500000 = rw small at to in omega (arith, most))
      | inr large ↦ (let most : frames ≤ 100000 = rw large at to in omega (arith, most))
    ]

begun_unfed : (p : SettingsValue) (carrier : Bool) (frames : ℕ) (members : List (List ℕ)) (items : List Record) → AreWithinLimits p
    → frames < 2 ^ 32 → All (IsName p) members → AllByRecursion (IsShaped p carrier) items
    → AreUnfed (texts_of p (lines_of_log (Begin p frames members ∷ items)))
begun_unfed p carrier frames members items limits few names all =
    lines_unfed p carrier limits (lines_of_log (Begin p frames members ∷ items))
    (fit-append p carrier (lines_of_record (Begin p frames members)) (lines_of_log items) (begin_fits p carrier frames members limits few names)
    (items_fit p carrier items all))

-- no line of a shape has a line feed
pub log_unfed : (log : List Record) (shape : IsShape log) → AreUnfed (texts_of shape.settings (lines_of_log log))
log_unfed log shape =
    let p = shape.settings in
    subst (λ l. AreUnfed (texts_of p (lines_of_log l))) (sym shape.is)
    (begun_unfed p (is_carried log) shape.frames shape.members shape.items shape.valid.settings
    (frames_few shape.frames p.digits shape.valid.frames_to) shape.valid.members
    (recursion_from_All (IsShaped p (is_carried log)) shape.items shape.shaped))

-- nor has the last one
pub end_unfed : (p : SettingsValue) → AreWithinLimits p → HasNoFeed (text_of_line p line.End)
end_unfed p limits = lines_are_told.no_feed p false line.End limits tt
