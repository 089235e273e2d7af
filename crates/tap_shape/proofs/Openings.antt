-- The opening of a text, line by line, and what a reader knows that takes its lines and passes over the others.
use Rattle.std.proofs.Common.{◌≡◌, ℕ, suc, ◌+◌, ◌==◌, Bool, true, false, not, cond, List, [], ◌∷◌, ◌++◌, take, filter, Option, None, Some, option_map, refl, ap, sym, subst, ◌∙◌, inl, inr, append_assoc, arith}
use Rattle.std.specs.Prelude.{if◌then◌else◌, map, IfOk, IfSome, Result, Ok, Err}
use Rattle.std.specs.List.{before_first, concat, slice_split}
use Rattle.std.proofs.lemmas.Bool.{cases_Bool}
use Rattle.std.proofs.lemmas.List.Elements.{All-nil}
use Rattle.std.proofs.lemmas.List.Splits.{slice_split_at}
use Rattle.std.proofs.lemmas.List.Sums.{take_while-cons}
use Rattle.tap_log.specs.Log.{LogValue}
use Rattle.tap_log.specs.declared.record.Record.{Record}
use Rattle.tap_line.specs.Laws.{HasNoFeed}
use Rattle.tap_report.specs.Shapes.{line}
use Rattle.tap_shape.specs.declared.reader.Begun.{Begun}
use Rattle.tap_shape.specs.Opening.{ends, lines_in, opening, later_opening, opening_lines, opening_texts, opens}
use Rattle.tap_shape.specs.Reader.{HasBegun, finished, if_taken, text_taken}
use Rattle.tap_shape.specs.Text.{IsTextOf, line_count}
use Rattle.tap_shape.proofs.Accepts.{start}
use Rattle.tap_shape.proofs.Exact.{Reads, ended_log, ended_not, reads_more, reads_start, refused_line}
use Rattle.tap_shape.proofs.Taking.{refused_by, taken_by}
use Rattle.tap_shape.proofs.Texts.{count_none, count_of}

-- ---- lines

-- a text with a line feed is a line, and those after it follow
feed_lines : (text rest : List ℕ) → HasNoFeed text → lines_in (text ++ 10 ∷ rest) ≡ text ∷ lines_in rest
feed_lines text rest none =
    ap (take (line_count (text ++ 10 ∷ rest))) (slice_split_at (λ byte. byte == 10) text 10 rest none refl)
    ∙ with_first (line_count (text ++ 10 ∷ rest)) (count_of text rest none)
  where
    with_first : (n : ℕ) → n ≡ 1 + line_count rest → take n (text ∷ slice_split (λ byte. byte == 10) rest) ≡ text ∷ lines_in rest
    with_first n e =
        let next : n ≡ suc (line_count rest) = omega (arith, e) in
        ap (λ k. take k (text ∷ slice_split (λ byte. byte == 10) rest)) next

-- a rest without one is none
no_lines : (rest : List ℕ) → HasNoFeed rest → lines_in rest ≡ []
no_lines rest none = ap (λ n. take n (slice_split (λ byte. byte == 10) rest)) (count_none rest none)

-- what a first line more makes of the opening
opening-cons : (text : List ℕ) (texts : List (List ℕ))
    → opening_texts (text ∷ texts)
    ≡ (if ends text then [] else (if opens text then text ∷ opening_texts texts else opening_texts texts))
opening-cons text texts = ap (filter opens) (take_while-cons (λ t. not (ends t)) text texts) ∙ by (ends text)
  where
    by : (b : Bool) → filter opens (cond (not b) (text ∷ before_first ends texts) [])
        ≡ (if b then [] else (if opens text then text ∷ opening_texts texts else opening_texts texts))
    by true = refl
    by false = refl

module _ (text rest : List ℕ) (none : HasNoFeed text) where
  -- the first line is of the opening
  pub opening_first : opening (text ++ 10 ∷ rest) ≡ text ++ 10 ∷ later_opening rest
  opening_first = ap opening_lines (feed_lines text rest none) ∙ append_assoc text (10 ∷ []) (later_opening rest)

  -- a later one, by what it begins with
  later : later_opening (text ++ 10 ∷ rest)
      ≡ concat (map line (if ends text then [] else (if opens text then text ∷ opening_texts (lines_in rest) else opening_texts (lines_in rest))))
  later =
      ap (λ l. concat (map line (opening_texts l))) (feed_lines text rest none)
      ∙ ap (λ l. concat (map line l)) (opening-cons text (lines_in rest))

  pub opening_ended : ends text ≡ true → later_opening (text ++ 10 ∷ rest) ≡ []
  opening_ended ended = later ∙ rw ended refl

  pub opening_taken : ends text ≡ false → opens text ≡ true → later_opening (text ++ 10 ∷ rest) ≡ text ++ 10 ∷ later_opening rest
  opening_taken goes opened =
      later ∙ rw (goes, opened) refl ∙ append_assoc text (10 ∷ []) (later_opening rest)

  pub opening_passed : ends text ≡ false → opens text ≡ false → later_opening (text ++ 10 ∷ rest) ≡ later_opening rest
  opening_passed goes other = later ∙ rw (goes, other) refl

pub opening_over : (rest : List ℕ) → HasNoFeed rest → later_opening rest ≡ []
opening_over rest none = ap (λ l. concat (map line (opening_texts l))) (no_lines rest none)

pub no_opening : (bytes : List ℕ) → HasNoFeed bytes → opening bytes ≡ []
no_opening bytes none = ap opening_lines (no_lines bytes none)

-- ---- a reader of the opening

-- it has taken some first lines of these bytes, and this rest of them is left
abbrev pub HasRead : List ℕ → List ℕ → Begun → Type 0
HasRead bytes rest r = (count : ℕ) × Reads bytes rest count (HasBegun r)

-- a line of the opening was taken, or another one passed over
abbrev pub GoesPast : Begun → List ℕ → Bool → Begun → Type 0
GoesPast r text past next =
    option_map HasBegun (if_taken past next) ≡ (if opens text then text_taken (HasBegun r) text else Some (HasBegun r))

module _ (bytes text rest : List ℕ) (r next : Begun) (past : Bool) (reads : HasRead bytes (later_opening (text ++ 10 ∷ rest)) r)
    (none : HasNoFeed text) (goes : ends text ≡ false) (says : GoesPast r text past next) where
  reads_line : opens text ≡ true → Reads bytes (text ++ 10 ∷ later_opening rest) reads.0 (HasBegun r)
  reads_line opened = subst (λ l. Reads bytes l reads.0 (HasBegun r)) (opening_taken text rest none goes opened) reads.1

  pub read_past : past ≡ true → HasRead bytes (later_opening rest) next
  read_past is =
      elim (cases_Bool (opens text)) [
        | inl opened ↦
            let said : option_map HasBegun (if_taken past next) ≡ text_taken (HasBegun r) text = rw opened at says in (
              reads.0 + 1,
              reads_more bytes reads.0 (HasBegun r) text (later_opening rest) (HasBegun next) (reads_line opened) none
                  (taken_by past r next text said is),
            )
        | inr other ↦
            let said : option_map HasBegun (if_taken past next) ≡ Some (HasBegun r) = rw other at says in
            let same : Some (HasBegun next) ≡ Some (HasBegun r) = sym (ap (λ t. option_map HasBegun (if_taken t next)) is) ∙ said in
            let it : r ≡ next = cc in (
              reads.0,
              subst (λ n. Reads bytes (later_opening rest) reads.0 (HasBegun n)) it
                  (subst (λ l. Reads bytes l reads.0 (HasBegun r)) (opening_passed text rest none goes other) reads.1),
            )
      ]

  -- or it is refused: then the opening is no log's text
  pub stops : past ≡ false → (log : List Record) → IsTextOf bytes log → ⊥
  stops is =
      elim (cases_Bool (opens text)) [
        | inl opened ↦
            let said : option_map HasBegun (if_taken past next) ≡ text_taken (HasBegun r) text = rw opened at says in
            (refused_line bytes reads.0 (HasBegun r) text (later_opening rest) (reads_line opened) none (refused_by past r next text said is)).none
        | inr other ↦ absurd (
            let said : option_map HasBegun (if_taken past next) ≡ Some (HasBegun r) = rw other at says in
            let wrong : None ≡ Some (HasBegun r) = sym (ap (λ t. option_map HasBegun (if_taken t next)) is) ∙ said in
            cc)
      ]

-- ---- the first line

module _ (bytes text rest : List ℕ) (is : bytes ≡ text ++ 10 ∷ rest) (none : HasNoFeed text) where
  opens_with : opening bytes ≡ text ++ 10 ∷ later_opening rest
  opens_with = ap opening is ∙ opening_first text rest none

  reads_first : Reads (opening bytes) (text ++ 10 ∷ later_opening rest) 0 start
  reads_first = subst (λ l. Reads (opening bytes) l 0 start) opens_with (reads_start (opening bytes))

  -- it is taken
  pub first_read : (r : Begun) → text_taken start text ≡ Some (HasBegun r) → HasRead (opening bytes) (later_opening rest) r
  first_read r read = (1, reads_more (opening bytes) 0 start text (later_opening rest) (HasBegun r) reads_first none read)

  -- or it isn't
  pub first_refused : text_taken start text ≡ None → (log : List Record) → IsTextOf (opening bytes) log → ⊥
  first_refused refused = (refused_line (opening bytes) 0 start text (later_opening rest) reads_first none refused).none

-- no line at all
pub no_first : (bytes : List ℕ) → HasNoFeed bytes → (log : List Record) → IsTextOf (opening bytes) log → ⊥
no_first bytes none =
    subst (λ l. (log : List Record) → IsTextOf l log → ⊥) (sym (no_opening bytes none))
    (ended_not [] 0 start [] (reads_start []) (All-nil (λ byte. (byte == 10) ≡ false)) refl).none

-- ---- the end

-- the log, if it may end here
abbrev Ends : Begun → Option LogValue → Type 0
Ends r found = option_map (λ log. log.records) found ≡ finished r

module _ (bytes rest : List ℕ) (r : Begun) (reads : HasRead bytes rest r) (over : rest ≡ []) where
  reads_all : Reads bytes [] reads.0 (HasBegun r)
  reads_all = subst (λ l. Reads bytes l reads.0 (HasBegun r)) over reads.1

  found_log : (found : Option LogValue) → Ends r found → IfSome found (λ log. IsTextOf bytes log.records)
  found_log None is = tt
  found_log (Some log) is = ended_log bytes [] reads.0 (HasBegun r) log.records reads_all (sym is)

  found_none : (found : Option LogValue) → Ends r found → found ≡ None → (log : List Record) → IsTextOf bytes log → ⊥
  found_none None is here =
      (ended_not bytes reads.0 (HasBegun r) [] reads_all (All-nil (λ byte. (byte == 10) ≡ false)) (sym is)).none
  found_none (Some log) is here = absurd (cc)

  pub ends_log : {E : Type 0} (result : Result (Option LogValue) E) → IfOk result (Ends r)
      → IfOk result (λ found. IfSome found (λ log. IsTextOf bytes log.records))
  ends_log (Ok found) is = found_log found is
  ends_log (Err refused) is = tt

  pub ends_none : {E : Type 0} (result : Result (Option LogValue) E) → IfOk result (Ends r) → result ≡ Ok None → (log : List Record)
      → IsTextOf bytes log → ⊥
  ends_none (Ok found) is here = found_none found is (cc)
  ends_none (Err refused) is here = absurd (cc)
