-- A reader that has taken the first lines of some bytes: what is known of them, and which line is the first that no log's text has.
-- Cited above: one_log
use Rattle.std.proofs.Common.{◌≡◌, inl, inr, ℕ, suc, ◌+◌, ◌-◌, ◌==◌, false, List, [], ◌∷◌, ◌++◌, length, None, Some, refl, ap, sym, subst, ◌∙◌, arith, append-nil, append_assoc, length-append}
use Rattle.std.specs.Prelude.{option_and_then}
use Rattle.std.proofs.lemmas.List.{map-append, nil_from_length}
use Rattle.std.proofs.lemmas.List.Elements.{All-nil}
use Rattle.std.proofs.lemmas.Bool.{cases_Bool, eqb-true}
use Rattle.tap_name.specs.Settings.{AreWithinLimits, SettingsValue}
use Rattle.tap_scenario.proofs.Options.{and_then-back, option_map-back}
use Rattle.tap_log.specs.declared.record.Record.{Record}
use Rattle.tap_log.specs.Kinds.{is_carried}
use Rattle.tap_line.specs.declared.line.Beginning.{Beginning}
use Rattle.tap_line.specs.declared.line.Line.{Line}
use Rattle.tap_line.specs.Laws.{HasNoFeed}
use Rattle.tap_line.specs.Line.{text_of_line}
use Rattle.tap_line.proofs.Exact.{lines_are_read_back}
use Rattle.tap_shape.specs.declared.reader.Begun.{Begun}
use Rattle.tap_shape.specs.declared.reader.Open.{Open}
use Rattle.tap_shape.specs.declared.reader.Open.TheVariants.{Members, Ready, Links, Pairs, Over}
use Rattle.tap_shape.specs.Reader.{HasBegun, Reader, Start, begun, closed_with, ended, finished, finished_with, first_line, line_at, line_taken, text_taken}
use Rattle.tap_shape.specs.Text.{BeginsText, IsNotLog, IsTextOf, first_lines, line_count}
use Rattle.tap_shape.proofs.Accepted.{text_finishes}
use Rattle.tap_shape.proofs.Accepts.{start, taken-append, texts_taken}
use Rattle.tap_shape.proofs.Completes.{begun_completes, counted_text, nothing_begins, over_text}
use Rattle.tap_shape.proofs.Kept.{first_kept, first_taken, line_kept}
use Rattle.tap_shape.proofs.Lines.{texts_of}
use Rattle.tap_shape.proofs.Order.{closed_lines, line_more, lines_of_begun, lines_so_far}
use Rattle.tap_shape.proofs.Texts.{AreUnfed, count_texts, fed, fed-more, first_and_next, first_lines_are, next_text, no_more, unfed-append}
use Rattle.tap_shape.proofs.Valid.{IsBegun, IsOpenWith, closed_counted}

-- ---- what holds of a reader

-- it has begun, or not yet
abbrev pub IsReader : Reader → Type 0
IsReader (Start records) = records ≡ []
IsReader (HasBegun r) = AreWithinLimits r.settings × IsBegun r

-- the texts of the lines that it has taken
abbrev pub texts_of_reader : Reader → List (List ℕ)
texts_of_reader (Start records) = []
texts_of_reader (HasBegun r) = texts_of r.settings (lines_of_begun r)

-- they begin the text of some log
reader_completes : (r : Reader) → IsReader r → BeginsText (fed (texts_of_reader r))
reader_completes (Start records) valid = nothing_begins
reader_completes (HasBegun r) valid = begun_completes r valid.0 valid.1

-- what a text that is taken gives
record TextTaken (r : Reader) (text : List ℕ) (next : Reader) : Type 0 where
  valid : IsReader next
  texts : texts_of_reader next ≡ texts_of_reader r ++ text ∷ []

-- the first text
first_text : (text : List ℕ) (next : Reader) (first : Beginning) (r : Begun) → first_line text ≡ Some first → begun [] first ≡ Some r
    → HasBegun r ≡ next → TextTaken start text next
unfolding first_line
first_text text next first r reads begins same =
    let back = (lines_are_read_back.beginning text first).0 reads in
    let taken = first_taken first r begins in
    let limits : AreWithinLimits r.settings = subst (λ (b : Begun). AreWithinLimits b.settings) taken.is back.1.limits in
    subst (TextTaken start text) same (record {
      valid = (limits, first_kept first r back.1 taken);
      texts = ap (λ b. texts_of_reader (HasBegun b)) (sym taken.is) ∙ ap (λ t. t ∷ []) (sym back.0);
    })

-- a text after others
next_text_taken : (r : Begun) (text : List ℕ) (next : Reader) (l : Line) (more : Begun) → IsReader (HasBegun r) → line_at r text ≡ Some l
    → line_taken r l ≡ Some more → HasBegun more ≡ next → TextTaken (HasBegun r) text next
unfolding line_at
next_text_taken r text next l more valid reads takes same =
    let back = (lines_are_read_back.any_line r.settings (is_carried r.records) text l valid.0).0 reads in
    let longer = line_more r (is_carried r.records) l more back.1 takes in
    subst (TextTaken (HasBegun r) text) same (record {
      valid = (subst AreWithinLimits (sym longer.settings) valid.0, line_kept r more valid.1 l back.1 takes);
      texts = ap (λ s. texts_of s (lines_of_begun more)) longer.settings ∙ ap (texts_of r.settings) longer.lines
          ∙ map-append (text_of_line r.settings) (lines_of_begun r) (l ∷ [])
          ∙ ap (λ t. texts_of r.settings (lines_of_begun r) ++ t ∷ []) (sym back.0);
    })

text_taken_more : (r : Reader) (text : List ℕ) (next : Reader) → IsReader r → text_taken r text ≡ Some next → TextTaken r text next
text_taken_more (Start records) text next valid is =
    let last = option_map-back HasBegun (option_and_then (begun records) (first_line text)) next is in
    let first = and_then-back (begun records) (first_line text) last.0 last.1 in
    subst (λ l. TextTaken (Start l) text next) (sym valid)
    (first_text text next first.0 last.0 first.1 (subst (λ l. begun l first.0 ≡ Some last.0) valid first.2) last.2)
text_taken_more (HasBegun r) text next valid is =
    let last = option_map-back HasBegun (option_and_then (line_taken r) (line_at r text)) next is in
    let first = and_then-back (line_taken r) (line_at r text) last.0 last.1 in
    next_text_taken r text next first.0 last.0 valid first.1 first.2 last.2

-- ---- what is known of a reader

-- The reader has taken the first so many lines of these bytes, and this rest of them is left.
pub record Reads (bytes rest : List ℕ) (count : ℕ) (r : Reader) : Type 0 where
  pub valid : IsReader r
  pub taken : texts_taken (Some start) (texts_of_reader r) ≡ Some r
  pub unfed : AreUnfed (texts_of_reader r)
  pub text : bytes ≡ fed (texts_of_reader r) ++ rest
  pub lines : count ≡ length (texts_of_reader r)

pub reads_start : (bytes : List ℕ) → Reads bytes bytes 0 start
reads_start bytes = record { valid = refl; taken = refl; unfed = tt; text = refl; lines = refl }

module _ (bytes : List ℕ) (count : ℕ) (r : Reader) where
  pub reads_more : (text rest : List ℕ) (next : Reader) → Reads bytes (text ++ 10 ∷ rest) count r → HasNoFeed text → text_taken r text ≡ Some next
      → Reads bytes rest (count + 1) next
  reads_more text rest next reads none is =
      let more = text_taken_more r text next reads.valid is in
      let texts = texts_of_reader r in
      let before = reads.lines in
      record {
        valid = more.valid;
        taken = ap (texts_taken (Some start)) more.texts ∙ taken-append (Some start) texts (text ∷ [])
            ∙ ap (λ o. texts_taken o (text ∷ [])) reads.taken ∙ ap (λ o. texts_taken o []) is;
        unfed = subst AreUnfed (sym more.texts) (unfed-append texts (text ∷ []) reads.unfed (none, tt));
        text = reads.text ∙ fed-more texts text rest ∙ ap (λ t. fed t ++ rest) (sym more.texts);
        lines = (let size = ap length more.texts ∙ length-append texts (text ∷ []) in omega (arith, size, before));
      }

  -- the lines that it has taken begin the text of some log
  begins_so_far : (rest : List ℕ) → Reads bytes rest count r → BeginsText (first_lines count bytes)
  begins_so_far rest reads =
      let texts = texts_of_reader r in
      subst BeginsText (sym (ap (λ n. first_lines n bytes) reads.lines ∙ ap (first_lines (length texts)) reads.text ∙ first_lines_are texts rest reads.unfed))
      (reader_completes r reads.valid)

  -- if a log's text goes on from here, the reader takes its next line
  takes_next : (rest text more : List ℕ) (log : List Record) (whole : List ℕ) → Reads bytes rest count r → HasNoFeed text → IsTextOf whole log
      → whole ≡ fed (texts_of_reader r) ++ (text ++ 10 ∷ more) → text_taken r text ≡ None → ⊥
  takes_next rest text more log whole reads none is begins refused =
      let texts = texts_of_reader r in
      let all = text_finishes whole log is in
      let next = next_text texts all.texts text more reads.unfed all.unfed none (sym all.are ∙ begins) in
      let never : texts_taken (Some start) all.texts ≡ None =
      ap (texts_taken (Some start)) next.are ∙ taken-append (Some start) texts (text ∷ next.later)
      ∙ ap (λ o. texts_taken o (text ∷ next.later)) reads.taken ∙ ap (λ o. texts_taken o next.later) refused in
      let wrong : None ≡ Some all.next = sym never ∙ all.taken in cc

  -- a line that isn't taken is the first that no log's text has
  pub refused_line : (text rest : List ℕ) → Reads bytes (text ++ 10 ∷ rest) count r → HasNoFeed text → text_taken r text ≡ None
      → IsNotLog bytes (count + 1)
  refused_line text rest reads none refused = record {
    none = λ log is. takes_next (text ++ 10 ∷ rest) text rest log bytes reads none is reads.text refused;
    from = omega arith;
    before = subst (λ n. BeginsText (first_lines n bytes)) (let e : count ≡ count + 1 - 1 = omega arith in e)
        (begins_so_far (text ++ 10 ∷ rest) reads);
    first = inl (λ begins.
        let texts = texts_of_reader r in
        let before = reads.lines in
        let size : count + 1 ≡ suc (length texts) = omega (arith, before) in
        let front : first_lines (count + 1) bytes ≡ fed texts ++ (text ++ 10 ∷ []) =
        ap (λ n. first_lines n bytes) size ∙ ap (first_lines (suc (length texts))) reads.text ∙ first_and_next texts text rest reads.unfed none in
        let whole : first_lines (count + 1) bytes ++ begins.rest ≡ fed texts ++ (text ++ 10 ∷ begins.rest) =
        ap (λ t. t ++ begins.rest) front ∙ append_assoc (fed texts) (text ++ 10 ∷ []) begins.rest
        ∙ ap (λ t. fed texts ++ t) (append_assoc text (10 ∷ []) begins.rest) in
        takes_next (text ++ 10 ∷ rest) text begins.rest begins.log (first_lines (count + 1) bytes ++ begins.rest) reads none begins.is whole refused);
  }

  unfinished : (rest : List ℕ) → Reads bytes rest count r → HasNoFeed rest → ((log : List Record) → IsTextOf bytes log → ⊥) → IsNotLog bytes (count + 1)
  unfinished rest reads none never = record {
    none = never;
    from = omega arith;
    before = subst (λ n. BeginsText (first_lines n bytes)) (let e : count ≡ count + 1 - 1 = omega arith in e) (begins_so_far rest reads);
    first = inr (let all = ap line_count reads.text ∙ count_texts (texts_of_reader r) rest reads.unfed none in
        let before = reads.lines in
        omega (arith, all, before));
  }

  -- a log's text has the lines so far, and no rest
  ends_here : (rest : List ℕ) (log : List Record) → Reads bytes rest count r → HasNoFeed rest → IsTextOf bytes log
      → (ended r [] ≡ Some log) × (rest ≡ [])
  ends_here rest log reads none is =
      let all = text_finishes bytes log is in
      let same = no_more (texts_of_reader r) all.texts rest reads.unfed all.unfed none (sym all.are ∙ reads.text) in
      let both : Some all.next ≡ Some r = sym all.taken ∙ ap (texts_taken (Some start)) same.0 ∙ reads.taken in
      let it : all.next ≡ r = cc in
      (ap (λ n. ended n []) (sym it) ∙ all.ends, same.1)

  -- at the end the log may be unfinished, or a rest is left that is no line
  pub ended_not : (rest : List ℕ) → Reads bytes rest count r → HasNoFeed rest → ended r rest ≡ None → IsNotLog bytes (count + 1)
  ended_not rest reads none stays =
      unfinished rest reads none (λ log is.
      let ends = ends_here rest log reads none is in
      let here : ended r [] ≡ None = subst (λ l. ended r l ≡ None) ends.1 stays in
      let wrong : None ≡ Some log = sym here ∙ ends.0 in
      cc)

-- what is closed is the log of the lines so far
closed_text : (p : SettingsValue) (records log : List Record) (steps : ℕ) (pending : Open) → IsOpenWith p records steps pending
    → closed_with p records pending ≡ Some log → IsTextOf (fed (texts_of p (lines_so_far p records pending))) log
closed_text p records log steps pending valid is =
    let counted = closed_counted p records log steps pending valid is in
    record {
      shape = counted.shape;
      text = inl (ap (λ l. fed (texts_of p l)) (sym (closed_lines p records log pending is)) ∙ sym (counted_text p log steps counted));
    }

-- what is finished is the log of the lines so far
finished_text : (p : SettingsValue) (records log : List Record) (steps : ℕ) (pending : Open) → IsOpenWith p records steps pending
    → finished_with p records pending ≡ Some log → IsTextOf (fed (texts_of p (lines_so_far p records pending))) log
finished_text p records log steps Over counted is =
    let same : records ≡ log = cc in
    subst (IsTextOf (fed (texts_of p (lines_so_far p records Over)))) same
    (record { shape = counted.shape; text = inr (over_text p records steps counted) })
finished_text p records log steps (Members frames members) valid is = closed_text p records log steps (Members frames members) valid is
finished_text p records log steps Ready valid is = closed_text p records log steps Ready valid is
finished_text p records log steps (Links name status links left) valid is = closed_text p records log steps (Links name status links left) valid is
finished_text p records log steps (Pairs name pairs left) valid is = closed_text p records log steps (Pairs name pairs left) valid is

ended_text : (r : Begun) (rest : List ℕ) (log : List Record) → IsBegun r → ended (HasBegun r) rest ≡ Some log
    → IsTextOf (fed (texts_of r.settings (lines_of_begun r)) ++ rest) log
ended_text r rest log valid is =
    elim (cases_Bool (length rest == 0)) [
      | inl empty ↦
          let nothing : rest ≡ [] = nil_from_length rest (eqb-true (length rest) 0 empty) in
          let it : finished r ≡ Some log = rw empty at is in
          subst (λ t. IsTextOf t log) (sym (ap (λ l. fed (texts_of r.settings (lines_of_begun r)) ++ l) nothing
          ∙ append-nil (fed (texts_of r.settings (lines_of_begun r)))))
          (finished_text r.settings r.records log r.steps r.pending valid it)
      | inr more ↦ absurd (let wrong : None ≡ Some log = rw more at is in cc)
    ]

-- or it is the log of this text
pub ended_log : (bytes rest : List ℕ) (count : ℕ) (r : Reader) (log : List Record) → Reads bytes rest count r → ended r rest ≡ Some log
    → IsTextOf bytes log
ended_log bytes rest count (Start records) log reads is = absurd (cc)
ended_log bytes rest count (HasBegun r) log reads is =
    subst (λ t. IsTextOf t log) (sym reads.text) (ended_text r rest log reads.valid.1 is)

-- ---- exact

-- bytes that are a log's text aren't refused
pub never_both : (bytes : List ℕ) (log : List Record) (k : ℕ) → IsTextOf bytes log → IsNotLog bytes k → ⊥
never_both bytes log k is not = not.none log is

-- two logs never have one text
pub one_log : (bytes : List ℕ) (log other : List Record) → IsTextOf bytes log → IsTextOf bytes other → log ≡ other
one_log bytes log other is also =
    let first = text_finishes bytes log is in
    let second = text_finishes bytes other also in
    let same = no_more second.texts first.texts [] second.unfed first.unfed (All-nil (λ byte. (byte == 10) ≡ false))
    (sym first.are ∙ second.are ∙ sym (append-nil (fed second.texts))) in
    let both : Some first.next ≡ Some second.next = sym first.taken ∙ ap (texts_taken (Some start)) same.0 ∙ second.taken in
    let it : first.next ≡ second.next = cc in
    let logs : Some log ≡ Some other = sym first.ends ∙ ap (λ n. ended n []) it ∙ second.ends in
    cc
