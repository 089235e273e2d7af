-- A reader takes each line of a log's text, and ends with that log.
use Rattle.std.proofs.Common.{◌≡◌, ℕ, ◌+◌, ◌-◌, ◌≤◌, ◌==◌, nat_le, All, Bool, true, false, List, [], ◌∷◌, ◌++◌, map, length, Option, None, Some, option_map, if◌then◌else◌, refl, ap, sym, subst, ◌∙◌, arith, append-nil, append_assoc, length-append}
use Rattle.std.specs.Prelude.{option_and_then}
use Rattle.std.specs.List.{AllByRecursion}
use Rattle.std.proofs.lemmas.Bool.{and_from, le-leb, lt-leb, ne_eqb}
use Rattle.std.proofs.lemmas.List.Elements.{recursion_from_All}
use Rattle.tap_name.specs.Settings.{AreWithinLimits, SettingsValue}
use Rattle.tap_name.specs.Name.{IsName}
use Rattle.tap_name.specs.Names.{AreDistinct}
use Rattle.tap_scenario.specs.Scenario.{IsScript, most_frames, most_members, most_steps}
use Rattle.tap_log.specs.declared.record.Record.{Record}
use Rattle.tap_log.specs.declared.record.Record.TheVariants as item
use Rattle.tap_log.specs.Kinds.{is_carried, step_of}
use Rattle.tap_log.specs.Log.{begun_steps}
use Rattle.tap_log.specs.MoreRecords.{at_most_one}
use Rattle.tap_log.proofs.MoreRecords.{one_more_record_holds}
use Rattle.tap_report.specs.Starts.{begin_line}
use Rattle.tap_line.specs.declared.line.Beginning.{Beginning}
use Rattle.tap_line.specs.declared.line.Line.{Line}
use Rattle.tap_line.specs.declared.line.Line.TheVariants as line
use Rattle.tap_line.specs.Line.{IsBeginning, IsLine, IsLink, IsWhole, text_of_line}
use Rattle.tap_line.proofs.Exact.{lines_are_read_back}
use Rattle.tap_shape.specs.declared.reader.Begun.{Begun}
use Rattle.tap_shape.specs.declared.reader.Open.{Open}
use Rattle.tap_shape.specs.declared.reader.Open.TheVariants.{Members, Ready, Links, Pairs}
use Rattle.tap_shape.specs.Reader.{HasBegun, Reader, Start, after, closed, first_line, line_at, line_taken, may_send, one_step_more, steps_with, text_taken}
use Rattle.tap_shape.specs.Shape.{IsPair, IsShaped}
use Rattle.tap_shape.proofs.Distinct.{new_after}
use Rattle.tap_shape.proofs.Lines.{frames_few, lines_of_record, texts_of}

-- ---- texts

-- the reader after these texts, if it takes each
abbrev pub texts_taken : Option Reader → List (List ℕ) → Option Reader
texts_taken None texts = None
texts_taken (Some r) [] = Some r
texts_taken (Some r) (t ∷ ts) = texts_taken (text_taken r t) ts

pub taken-append : (o : Option Reader) (ts us : List (List ℕ)) → texts_taken o (ts ++ us) ≡ texts_taken (texts_taken o ts) us
taken-append None ts us = refl
taken-append (Some r) [] us = refl
taken-append (Some r) (t ∷ ts) us = taken-append (text_taken r t) ts us

abbrev pub start : Reader
start = Start []

-- a reader of these parts
abbrev at : SettingsValue → List Record → ℕ → Open → Begun
at p records steps pending = record { settings = p; records = records; steps = steps; pending = pending }

-- the text of a line is taken as the line is
pub one_text : (r : Begun) (l : Line) → AreWithinLimits r.settings → IsLine r.settings (is_carried r.records) l
    → text_taken (HasBegun r) (text_of_line r.settings l) ≡ option_map HasBegun (line_taken r l)
unfolding line_at
one_text r l limits fits =
    ap (λ o. option_map HasBegun (option_and_then (line_taken r) o))
    ((lines_are_read_back.any_line r.settings (is_carried r.records) (text_of_line r.settings l) l limits).1 (refl, fits))

-- the first line
first_text : (first : Beginning) → IsBeginning first → may_send first.settings first.frames ≡ true
    → text_taken start (begin_line first.settings first.frames) ≡ Some (HasBegun (at first.settings [] 0 (Members first.frames [])))
unfolding first_line
first_text first is may =
    let read = (lines_are_read_back.beginning (begin_line first.settings first.frames) first).1 (refl, is) in
    rw (read, may) refl

-- ---- members, links and pairs

members_taken : (p : SettingsValue) (frames : ℕ) (before members : List (List ℕ)) → AreWithinLimits p → length before + length members ≤ most_members
    → AreDistinct (before ++ members) → AllByRecursion (IsName p) members
    → texts_taken (Some (HasBegun (at p [] 0 (Members frames before)))) (texts_of p (map line.Member members))
    ≡ Some (HasBegun (at p [] 0 (Members frames (before ++ members))))
members_taken p frames before [] limits few distinct names =
    ap (λ l. Some (HasBegun (at p [] 0 (Members frames l)))) (sym (append-nil before))
members_taken p frames before (name ∷ members) limits few distinct names =
    let longer = length-append before (name ∷ []) in
    let room : nat_le most_members (length before) ≡ false = lt-leb most_members (length before) (omega (arith, few)) in
    let new = new_after before members name distinct in
    let one : line_taken (at p [] 0 (Members frames before)) (line.Member name) ≡ Some (at p [] 0 (Members frames (before ++ name ∷ []))) =
    rw (room, new) refl in
    let text = one_text (at p [] 0 (Members frames before)) (line.Member name) limits names.0 ∙ ap (option_map HasBegun) one in
    ap (λ o. texts_taken o (texts_of p (map line.Member members))) text
    ∙ members_taken p frames (before ++ name ∷ []) members limits (omega (arith, few, longer))
    (subst AreDistinct (sym (append_assoc before (name ∷ []) members)) distinct) names.1
    ∙ ap (λ l. Some (HasBegun (at p [] 0 (Members frames l)))) (append_assoc before (name ∷ []) members)

-- further lines of a table or of pointers
module _ {A : Type 0} (p : SettingsValue) (records : List Record) (steps : ℕ) (pending : List A → ℕ → Open) (make : A → Line)
    (IsOne : A → Type 0) (limits : AreWithinLimits p) (fits : (a : A) → IsOne a → IsLine p (is_carried records) (make a))
    (takes : (before : List A) (a : A) (left : ℕ) → line_taken (at p records steps (pending before left)) (make a)
    ≡ (if left == 0 then None else Some (at p records steps (pending (before ++ a ∷ []) (left - 1))))) where
  further_taken : (before xs : List A) → AllByRecursion IsOne xs
      → texts_taken (Some (HasBegun (at p records steps (pending before (length xs))))) (texts_of p (map make xs))
      ≡ Some (HasBegun (at p records steps (pending (before ++ xs) 0)))
  further_taken before [] all = ap (λ l. Some (HasBegun (at p records steps (pending l 0)))) (sym (append-nil before))
  further_taken before (a ∷ xs) all =
      let some : (length (a ∷ xs) == 0) ≡ false = ne_eqb (length (a ∷ xs)) 0 (λ e. absurd (omega (arith, e))) in
      let less : length (a ∷ xs) - 1 ≡ length xs = omega arith in
      let one : line_taken (at p records steps (pending before (length (a ∷ xs)))) (make a)
      ≡ Some (at p records steps (pending (before ++ a ∷ []) (length xs))) =
      takes before a (length (a ∷ xs))
      ∙ ap (λ b. if b then None else Some (at p records steps (pending (before ++ a ∷ []) (length (a ∷ xs) - 1)))) some
      ∙ ap (λ n. Some (at p records steps (pending (before ++ a ∷ []) n))) less in
      let text = one_text (at p records steps (pending before (length (a ∷ xs)))) (make a) limits (fits a all.0) ∙ ap (option_map HasBegun) one in
      ap (λ o. texts_taken o (texts_of p (map make xs))) text ∙ further_taken (before ++ a ∷ []) xs all.1
      ∙ ap (λ l. Some (HasBegun (at p records steps (pending l 0)))) (append_assoc before (a ∷ []) xs)

-- ---- one record more

-- after these texts the reader may end with this log
pub record Closes (p : SettingsValue) (r : Reader) (texts : List (List ℕ)) (log : List Record) : Type 0 where
  pub next : Begun
  pub taken : texts_taken (Some r) texts ≡ Some (HasBegun next)
  pub settings : next.settings ≡ p
  pub closes : closed next ≡ Some log
  pub steps : next.steps ≡ length (begun_steps log)

-- how many steps there are with one record more
counted_with : (done : List Record) (entry : Record)
    → length (begun_steps (done ++ entry ∷ [])) ≡ length (begun_steps done) + length (at_most_one (step_of entry))
counted_with done entry =
    ap length (one_more_record_holds.steps done entry) ∙ length-append (begun_steps done) (at_most_one (step_of entry))

steps_some : (steps : ℕ) (entry : Record) → steps + length (at_most_one (step_of entry)) ≤ most_steps
    → steps_with steps entry ≡ Some (steps + length (at_most_one (step_of entry)))
unfolding steps_with
steps_some steps (item.Step index step) few =
    let room : nat_le most_steps steps ≡ false = lt-leb most_steps steps (omega (arith, few)) in
    let one : one_step_more steps ≡ Some (steps + 1) = rw room refl in one
steps_some steps entry few = let none : steps ≡ steps + 0 = omega arith in ap Some none

module _ (r : Begun) (done : List Record) (limits : AreWithinLimits r.settings) (closes : closed r ≡ Some done)
    (counted : r.steps ≡ length (begun_steps done)) where
  -- the first line of a table or of pointers
  opens : (pending : Open) (l : Line) → line_taken r l ≡ option_map (after r r.steps pending) (closed r)
      → IsLine r.settings (is_carried r.records) l
      → text_taken (HasBegun r) (text_of_line r.settings l) ≡ Some (HasBegun (at r.settings done r.steps pending))
  opens pending l takes fits =
      one_text r l limits fits ∙ ap (option_map HasBegun) (takes ∙ ap (option_map (after r r.steps pending)) closes)

  whole_closes : (entry : Record) → IsWhole r.settings (is_carried r.records) entry → length (begun_steps (done ++ entry ∷ [])) ≤ most_steps
      → Closes r.settings (HasBegun r) (texts_of r.settings (line.Whole entry ∷ [])) (done ++ entry ∷ [])
  whole_closes entry fits few =
      let more = length (at_most_one (step_of entry)) in
      let size = counted_with done entry in
      let some = steps_some r.steps entry (omega (arith, few, size, counted)) in
      let one : line_taken r (line.Whole entry) ≡ Some (at r.settings (done ++ entry ∷ []) (r.steps + more) Ready) =
      ap (λ o. option_and_then (λ n. option_map (λ records. after r n Ready (records ++ entry ∷ [])) (closed r)) o) some
      ∙ ap (option_map (λ records. after r (r.steps + more) Ready (records ++ entry ∷ []))) closes in
      record {
        next = at r.settings (done ++ entry ∷ []) (r.steps + more) Ready;
        taken = ap (λ o. texts_taken o []) (one_text r (line.Whole entry) limits fits ∙ ap (option_map HasBegun) one);
        settings = refl;
        closes = refl;
        steps = omega (arith, size, counted);
      }

  -- a record that isn't a step has the steps before it
  no_step : (entry : Record) → step_of entry ≡ None → r.steps ≡ length (begun_steps (done ++ entry ∷ []))
  no_step entry none =
      let size = counted_with done entry in
      let nothing : length (at_most_one (step_of entry)) ≡ 0 = ap (λ o. length (at_most_one o)) none in
      omega (arith, size, nothing, counted)

  pub record_closes : (entry : Record) → IsShaped r.settings (is_carried r.records) entry → length (begun_steps (done ++ entry ∷ [])) ≤ most_steps
      → Closes r.settings (HasBegun r) (texts_of r.settings (lines_of_record entry)) (done ++ entry ∷ [])
  unfolding IsShaped lines_of_record
  record_closes (item.Begin settings frames members) shaped few = absurd shaped
  record_closes (item.TableOf name status links) shaped few = record {
    next = at r.settings done r.steps (Links name status links 0);
    taken = ap (λ o. texts_taken o (texts_of r.settings (map line.Link links)))
        (opens (Links name status [] (length links)) (line.Table name status (length links)) refl (shaped.0, shaped.1.few))
        ∙ further_taken r.settings done r.steps (Links name status) line.Link (IsLink r.settings) limits (λ a fits. fits) (λ before a left. refl) []
        links (recursion_from_All (IsLink r.settings) links shaped.1.each);
    settings = refl;
    closes = refl;
    steps = no_step (item.TableOf name status links) refl;
  }
  record_closes (item.PointersOf name pairs) shaped few = record {
    next = at r.settings done r.steps (Pairs name pairs 0);
    taken = ap (λ o. texts_taken o (texts_of r.settings (map line.Pointer pairs)))
        (opens (Pairs name [] (length pairs)) (line.Pointers name (length pairs)) refl (shaped.0, shaped.1.few))
        ∙ further_taken r.settings done r.steps (Pairs name) line.Pointer (IsPair r.settings) limits (λ a fits. fits) (λ before a left. refl) []
        pairs (recursion_from_All (IsPair r.settings) pairs shaped.1.each);
    settings = refl;
    closes = refl;
    steps = no_step (item.PointersOf name pairs) refl;
  }
  record_closes entry shaped few = whole_closes entry shaped few

-- ---- the beginning

begin_taken : (p : SettingsValue) (frames : ℕ) (members : List (List ℕ)) → AreWithinLimits p → 1 ≤ frames → frames ≤ most_frames p.digits
    → length members ≤ most_members → AreDistinct members → All (IsName p) members
    → texts_taken (Some start) (texts_of p (lines_of_record (item.Begin p frames members)))
    ≡ Some (HasBegun (at p [] 0 (Members frames members)))
unfolding lines_of_record
begin_taken p frames members limits from to few distinct names =
    let first : Beginning = record { settings = p; frames = frames } in
    let is : IsBeginning first = record { limits = limits; frames = frames_few frames p.digits to } in
    let may : may_send first.settings first.frames ≡ true =
    and_from (nat_le 1 frames) (nat_le frames (most_frames p.digits)) (le-leb 1 frames from) (le-leb frames (most_frames p.digits) to) in
    ap (λ o. texts_taken o (texts_of p (map line.Member members))) (first_text first is may)
    ∙ members_taken p frames [] members limits (omega (arith, few)) distinct (recursion_from_All (IsName p) members names)

pub begin_closes : (p : SettingsValue) (carrier : Bool) (frames : ℕ) (members : List (List ℕ))
    → IsScript (record { settings = p; frames = frames; carrier = carrier; members = members; steps = [] })
    → Closes p start (texts_of p (lines_of_record (item.Begin p frames members))) (item.Begin p frames members ∷ [])
begin_closes p carrier frames members valid =
    let some = valid.members_from in
    let more : (length members == 0) ≡ false = ne_eqb (length members) 0 (λ e. absurd (omega (arith, e, some))) in
    record {
      next = at p [] 0 (Members frames members);
      taken = begin_taken p frames members valid.settings valid.frames_from valid.frames_to valid.members_to valid.distinct valid.members;
      settings = refl;
      closes = ap (λ b. if b then None else Some (item.Begin p frames members ∷ [])) more;
      steps = refl;
    }
