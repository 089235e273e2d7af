-- What a reader has taken begins the text of a log.
use Rattle.std.proofs.Common.{◌≡◌, inl, inr, ℕ, ◌+◌, ◌<◌, List, [], ◌∷◌, ◌++◌, map, length, replicate, refl, ap, sym, ◌∙◌, arith, append-nil, append_assoc, length-append}
use Rattle.std.proofs.lemmas.List.{length-replicate, map-append}
use Rattle.std.proofs.lemmas.List.Elements.{All-append, All-cons, All-nil, All-replicate}
use Rattle.tap_name.specs.Settings.{AreWithinLimits, SettingsValue}
use Rattle.tap_name.specs.Name.{IsName}
use Rattle.tap_log.specs.declared.record.LinkLine.{LinkLine}
use Rattle.tap_log.specs.declared.record.LinkWord.TheVariants as link
use Rattle.tap_log.specs.declared.record.Pair.{Pair}
use Rattle.tap_log.specs.declared.record.Record.{Record}
use Rattle.tap_log.specs.declared.record.Record.TheVariants as item
use Rattle.tap_report.specs.Text.{text_of_log}
use Rattle.tap_report.specs.declared.mode.Mode.TheVariants.{Long}
use Rattle.tap_line.specs.declared.line.Line.{Line}
use Rattle.tap_line.specs.declared.line.Line.TheVariants as line
use Rattle.tap_line.specs.Line.{IsLink, text_of_line}
use Rattle.tap_shape.specs.declared.reader.Begun.{Begun}
use Rattle.tap_shape.specs.declared.reader.Open.{Open}
use Rattle.tap_shape.specs.declared.reader.Open.TheVariants.{Members, Ready, Links, Pairs, Over}
use Rattle.tap_shape.specs.Shape.{IsPair}
use Rattle.tap_shape.specs.Text.{BeginsText, last_line}
use Rattle.tap_shape.proofs.Lines.{lines_of_log, lines_of_record, log_text, texts_of}
use Rattle.tap_shape.proofs.Order.{begin_lines, lines-push, lines_of_begun, lines_of_open, lines_so_far, pointer_lines, table_lines}
use Rattle.tap_shape.proofs.Texts.{fed, fed-append}
use Rattle.tap_shape.proofs.Valid.{IsBegun, IsCounted, IsOpenWith, IsOpening, opening_closes, pointers_push, table_push}

pub counted_text : (p : SettingsValue) (log : List Record) (steps : ℕ) → IsCounted p log steps
    → text_of_log Long log ≡ fed (texts_of p (lines_of_log log))
counted_text p log steps counted = log_text log counted.shape ∙ ap (λ s. fed (texts_of s (lines_of_log log))) counted.settings

-- ---- a log with one record more

module _ (p : SettingsValue) (records : List Record) where
  by_record : (entry : Record) (steps : ℕ) (lines more : List Line) → IsCounted p (records ++ entry ∷ []) steps
      → lines ++ more ≡ lines_of_record entry → BeginsText (fed (texts_of p (lines_of_log records ++ lines)))
  by_record entry steps lines more counted are =
      let so_far = lines_of_log records ++ lines in
      record {
        rest = fed (texts_of p more);
        log = records ++ entry ∷ [];
        is = record {
          shape = counted.shape;
          text = inl (sym (fed-append (texts_of p so_far) (texts_of p more)) ∙ ap fed (sym (map-append (text_of_line p) so_far more))
              ∙ ap (λ l. fed (texts_of p l)) (append_assoc (lines_of_log records) lines more ∙ ap (λ l. lines_of_log records ++ l) are
              ∙ sym (lines-push records entry)) ∙ sym (counted_text p (records ++ entry ∷ []) steps counted));
        };
      }

  -- the records alone
  by_end : (steps : ℕ) → IsCounted p records steps → BeginsText (fed (texts_of p (lines_of_log records ++ [])))
  by_end steps counted = record {
    rest = [];
    log = records;
    is = record {
      shape = counted.shape;
      text = inl (append-nil (fed (texts_of p (lines_of_log records ++ []))) ∙ ap (λ l. fed (texts_of p l)) (append-nil (lines_of_log records))
          ∙ sym (counted_text p records steps counted));
    };
  }

  -- and the last line
  pub over_text : (steps : ℕ) → IsCounted p records steps
      → fed (texts_of p (lines_of_log records ++ line.End ∷ [])) ≡ text_of_log Long records ++ last_line
  over_text steps counted =
      ap fed (map-append (text_of_line p) (lines_of_log records) (line.End ∷ []))
      ∙ fed-append (texts_of p (lines_of_log records)) (texts_of p (line.End ∷ []))
      ∙ ap (λ t. t ++ last_line) (sym (counted_text p records steps counted))

  by_over : (steps : ℕ) → IsCounted p records steps → BeginsText (fed (texts_of p (lines_of_log records ++ line.End ∷ [])))
  by_over steps counted = record {
    rest = [];
    log = records;
    is = record {
      shape = counted.shape;
      text = inr (append-nil (fed (texts_of p (lines_of_log records ++ line.End ∷ []))) ∙ over_text steps counted);
    };
  }

-- ---- what may still come

module _ (p : SettingsValue) (limits : AreWithinLimits p) where
  abbrev some_name : List ℕ
  some_name = replicate p.digits 0

  name_is : IsName p some_name
  name_is =
      let base = limits.base_from in
      record { len = length-replicate p.digits 0; below = All-replicate (λ d. d < p.base) p.digits 0 (omega (arith, base)) }

  abbrev some_link : LinkLine
  some_link = record { slot = record { level = 0; digit = 0 }; name = some_name; kind = link.Settled }

  link_is : IsLink p some_link
  link_is = let base = limits.base_from in record { level = omega arith; digit = omega (arith, base); name = name_is }

  abbrev some_pair : Pair
  some_pair = record { object = some_name; server = some_name }

  alone_distinct : (i j : ℕ) (d : List ℕ) → i < j → j < length (some_name ∷ []) → ⊥
  alone_distinct i j d less within = absurd (omega (arith, less, within))

  one_member : (records : List Record) (steps frames : ℕ) → IsOpening p records steps frames [] → IsOpening p records steps frames (some_name ∷ [])
  one_member records steps frames opening = record {
    limits = opening.limits;
    first = opening.first;
    none = opening.none;
    frames_from = opening.frames_from;
    frames_to = opening.frames_to;
    few = omega arith;
    names = All-cons (IsName p) some_name [] name_is (All-nil (IsName p));
    distinct = λ i j d less within same. alone_distinct i j d less within;
  }

  completes : (records : List Record) (steps : ℕ) (pending : Open) → IsOpenWith p records steps pending
      → BeginsText (fed (texts_of p (lines_so_far p records pending)))
  completes records steps (Members frames []) opening =
      by_record p records (item.Begin p frames (some_name ∷ [])) steps (lines_of_open p (Members frames [])) (line.Member some_name ∷ [])
      (opening_closes p records steps frames (some_name ∷ []) (one_member records steps frames opening) (omega arith))
      (sym (begin_lines p frames (some_name ∷ [])))
  completes records steps (Members frames (name ∷ members)) opening =
      by_record p records (item.Begin p frames (name ∷ members)) steps (lines_of_open p (Members frames (name ∷ members))) []
      (opening_closes p records steps frames (name ∷ members) opening (omega arith))
      (append-nil (lines_of_open p (Members frames (name ∷ members))) ∙ sym (begin_lines p frames (name ∷ members)))
  completes records steps Ready counted = by_end p records steps counted
  completes records steps (Links name status links left) valid =
      let rest = replicate left some_link in
      let few = valid.2 in
      let size : length (links ++ rest) ≡ length links + left =
      length-append links rest ∙ ap (λ n. length links + n) (length-replicate left some_link) in
      by_record p records (item.TableOf name status (links ++ rest)) steps (lines_of_open p (Links name status links left)) (map line.Link rest)
      (table_push p records steps name status (links ++ rest) valid.0 valid.1 (omega (arith, size, few))
      (All-append (IsLink p) links rest valid.3 (All-replicate (IsLink p) left some_link link_is)))
      (ap (λ l. line.Table name status (length links + left) ∷ l) (sym (map-append line.Link links rest))
      ∙ ap (λ n. line.Table name status n ∷ map line.Link (links ++ rest)) (sym size ∙ (let none : length (links ++ rest) ≡ length (links ++ rest) + 0 = omega arith in none))
      ∙ sym (table_lines p name status (links ++ rest) 0 refl))
  completes records steps (Pairs name pairs left) valid =
      let rest = replicate left some_pair in
      let few = valid.2 in
      let size : length (pairs ++ rest) ≡ length pairs + left =
      length-append pairs rest ∙ ap (λ n. length pairs + n) (length-replicate left some_pair) in
      by_record p records (item.PointersOf name (pairs ++ rest)) steps (lines_of_open p (Pairs name pairs left)) (map line.Pointer rest)
      (pointers_push p records steps name (pairs ++ rest) valid.0 valid.1 (omega (arith, size, few))
      (All-append (IsPair p) pairs rest valid.3 (All-replicate (IsPair p) left some_pair (name_is, name_is))))
      (ap (λ l. line.Pointers name (length pairs + left) ∷ l) (sym (map-append line.Pointer pairs rest))
      ∙ ap (λ n. line.Pointers name n ∷ map line.Pointer (pairs ++ rest)) (sym size ∙ (let none : length (pairs ++ rest) ≡ length (pairs ++ rest) + 0 = omega arith in none))
      ∙ sym (pointer_lines p name (pairs ++ rest) 0 refl))
  completes records steps Over counted = by_over p records steps counted

-- a log that has begun goes on somehow
pub begun_completes : (r : Begun) → AreWithinLimits r.settings → IsBegun r → BeginsText (fed (texts_of r.settings (lines_of_begun r)))
begun_completes r limits valid = completes r.settings limits r.records r.steps r.pending valid

-- ---- before the first line

abbrev least : SettingsValue
least = record { base = 2; digits = 1; width = 1 }

least_is : AreWithinLimits least
least_is = record {
  base_from = omega arith;
  base_to = omega arith;
  digits_from = omega arith;
  digits_to = omega arith;
  width_from = omega arith;
  width_to = omega arith;
}

least_opening : IsOpening least [] 0 1 []
least_opening = record {
  limits = least_is;
  first = refl;
  none = refl;
  frames_from = omega arith;
  frames_to = omega arith;
  few = omega arith;
  names = All-nil (IsName least);
  distinct = λ i j d less within. absurd (omega (arith, within));
}

-- nothing begins the text of some log
pub nothing_begins : BeginsText []
nothing_begins =
    let some = completes least least_is [] 0 (Members 1 []) least_opening in
    record { rest = fed (texts_of least (lines_so_far least [] (Members 1 []))) ++ some.rest; log = some.log; is = some.is }
