-- What a reader has taken: the lines of its records and of what is open, one more with each line.
use Rattle.std.proofs.Common.{◌≡◌, inl, inr, ℕ, zero, suc, ◌+◌, ◌-◌, ◌≤◌, ◌<◌, ◌==◌, nat_le, Bool, false, List, [], ◌∷◌, ◌++◌, map, length, Option, None, Some, option_map, if◌then◌else◌, refl, ap, sym, ◌∙◌, arith, append-nil, append_assoc, length-append}
use Rattle.std.proofs.lemmas.List.{map-append}
use Rattle.std.specs.Prelude.{option_and_then}
use Rattle.std.proofs.lemmas.Bool.{cases_Bool, eqb-true, leb-false, ne_eqb}
use Rattle.std.proofs.lemmas.List.Concat.{flat_map-append}
use Rattle.tap_name.specs.Names.{has_name}
use Rattle.tap_name.specs.Settings.{SettingsValue}
use Rattle.tap_scenario.specs.Scenario.{most_members}
use Rattle.tap_log.specs.declared.record.LinkLine.{LinkLine}
use Rattle.tap_log.specs.declared.record.NodeWord.{NodeWord}
use Rattle.tap_log.specs.declared.record.Pair.{Pair}
use Rattle.tap_log.specs.declared.record.Record.{Record}
use Rattle.tap_log.specs.declared.record.Record.TheVariants as item
use Rattle.tap_line.specs.declared.line.Line.{Line}
use Rattle.tap_line.specs.declared.line.Line.TheVariants as line
use Rattle.tap_line.specs.Line.{IsLine, IsWhole}
use Rattle.tap_shape.specs.declared.reader.Begun.{Begun}
use Rattle.tap_shape.specs.declared.reader.Open.{Open}
use Rattle.tap_shape.specs.declared.reader.Open.TheVariants.{Members, Ready, Links, Pairs, Over}
use Rattle.tap_shape.specs.Reader.{after, closed, closed_with, line_taken, link_with, member_with, pair_with, steps_with}
use Rattle.tap_shape.proofs.Lines.{lines_of_log, lines_of_record}

-- ---- the lines so far

-- the lines of what is open
abbrev pub lines_of_open : SettingsValue → Open → List Line
lines_of_open p (Members frames members) = line.Begin (record { settings = p; frames = frames }) ∷ map line.Member members
lines_of_open p Ready = []
lines_of_open p (Links name status links left) = line.Table name status (length links + left) ∷ map line.Link links
lines_of_open p (Pairs name pairs left) = line.Pointers name (length pairs + left) ∷ map line.Pointer pairs
lines_of_open p Over = line.End ∷ []

abbrev pub lines_so_far : SettingsValue → List Record → Open → List Line
lines_so_far p records pending = lines_of_log records ++ lines_of_open p pending

abbrev pub lines_of_begun : Begun → List Line
lines_of_begun r = lines_so_far r.settings r.records r.pending

pub lines-push : (records : List Record) (entry : Record) → lines_of_log (records ++ entry ∷ []) ≡ lines_of_log records ++ lines_of_record entry
lines-push records entry =
    flat_map-append lines_of_record records (entry ∷ []) ∙ ap (λ l. lines_of_log records ++ l) (append-nil (lines_of_record entry))

-- the lines of a beginning, of a table, of pointers
pub begin_lines : (p : SettingsValue) (frames : ℕ) (members : List (List ℕ))
    → lines_of_record (item.Begin p frames members) ≡ lines_of_open p (Members frames members)
unfolding lines_of_record
begin_lines p frames members = refl

pub table_lines : (p : SettingsValue) (name : List ℕ) (status : NodeWord) (links : List LinkLine) (left : ℕ) → left ≡ 0
    → lines_of_record (item.TableOf name status links) ≡ lines_of_open p (Links name status links left)
unfolding lines_of_record
table_lines p name status links left none =
    let size : length links ≡ length links + left = omega (arith, none) in ap (λ n. line.Table name status n ∷ map line.Link links) size

pub pointer_lines : (p : SettingsValue) (name : List ℕ) (pairs : List Pair) (left : ℕ) → left ≡ 0
    → lines_of_record (item.PointersOf name pairs) ≡ lines_of_open p (Pairs name pairs left)
unfolding lines_of_record
pointer_lines p name pairs left none =
    let size : length pairs ≡ length pairs + left = omega (arith, none) in ap (λ n. line.Pointers name n ∷ map line.Pointer pairs) size

-- a record of one line has that line
pub whole_lines : (p : SettingsValue) (carrier : Bool) (entry : Record) → IsWhole p carrier entry → lines_of_record entry ≡ line.Whole entry ∷ []
unfolding lines_of_record
whole_lines p carrier (item.Begin settings frames members) is = absurd is
whole_lines p carrier (item.TableOf name status links) is = absurd is
whole_lines p carrier (item.PointersOf name pairs) is = absurd is
whole_lines p carrier entry is = refl

-- ---- what is closed

-- what may end, if a number is 0
pub ends_at_zero : (n : ℕ) (records done : List Record) → (if n == 0 then Some records else None) ≡ Some done → (n ≡ 0) × (records ≡ done)
ends_at_zero n records done is =
    elim (cases_Bool (n == 0)) [
      | inl none ↦ (eqb-true n 0 none, (let it : Some records ≡ Some done = rw none at is in cc))
      | inr some ↦ absurd (let it : None ≡ Some done = rw some at is in cc)
    ]

-- what may end, if a number isn't 0
pub ends_above_zero : (n : ℕ) (records done : List Record) → (if n == 0 then None else Some records) ≡ Some done → (1 ≤ n) × (records ≡ done)
ends_above_zero zero records done is = absurd (cc)
ends_above_zero (suc n) records done is =
    let more : (suc n == 0) ≡ false = ne_eqb (suc n) 0 (λ e. absurd (omega (arith, e))) in
    (omega arith, (let it : Some records ≡ Some done = rw more at is in cc))

-- what is closed has the lines of what was open
pub closed_lines : (p : SettingsValue) (records done : List Record) (pending : Open) → closed_with p records pending ≡ Some done
    → lines_of_log done ≡ lines_so_far p records pending
closed_lines p records done (Members frames members) is =
    let both = ends_above_zero (length members) (records ++ item.Begin p frames members ∷ []) done is in
    ap lines_of_log (sym both.1) ∙ lines-push records (item.Begin p frames members)
    ∙ ap (λ l. lines_of_log records ++ l) (begin_lines p frames members)
closed_lines p records done Ready is =
    let same : records ≡ done = cc in ap lines_of_log (sym same) ∙ sym (append-nil (lines_of_log records))
closed_lines p records done (Links name status links left) is =
    let both = ends_at_zero left (records ++ item.TableOf name status links ∷ []) done is in
    ap lines_of_log (sym both.1) ∙ lines-push records (item.TableOf name status links)
    ∙ ap (λ l. lines_of_log records ++ l) (table_lines p name status links left both.0)
closed_lines p records done (Pairs name pairs left) is =
    let both = ends_at_zero left (records ++ item.PointersOf name pairs ∷ []) done is in
    ap lines_of_log (sym both.1) ∙ lines-push records (item.PointersOf name pairs)
    ∙ ap (λ l. lines_of_log records ++ l) (pointer_lines p name pairs left both.0)
closed_lines p records done Over is = absurd (cc)

-- ---- one more line

-- the settings are the same, and there is one line more
pub record OneMore (r : Begun) (l : Line) (next : Begun) : Type 0 where
  pub settings : next.settings ≡ r.settings
  pub lines : lines_of_begun next ≡ lines_of_begun r ++ l ∷ []

-- what a member that is taken says
pub record MemberTaken (r : Begun) (frames : ℕ) (members : List (List ℕ)) (name : List ℕ) (next : Begun) : Type 0 where
  pub few : length members < most_members
  pub new : has_name members name ≡ false
  pub is : after r r.steps (Members frames (members ++ name ∷ [])) r.records ≡ next

pub member_taken : (r : Begun) (frames : ℕ) (members : List (List ℕ)) (name : List ℕ) (next : Begun)
    → member_with r name (Members frames members) ≡ Some next → MemberTaken r frames members name next
member_taken r frames members name next is =
    elim (cases_Bool (nat_le most_members (length members))) [
      | inl full ↦ absurd (let it : None ≡ Some next = rw full at is in cc)
      | inr room ↦ elim (cases_Bool (has_name members name)) [
        | inl there ↦ absurd (let it : None ≡ Some next = rw (room, there) at is in cc)
        | inr new ↦
            let it : Some (after r r.steps (Members frames (members ++ name ∷ [])) r.records) ≡ Some next = rw (room, new) at is in
            record { few = leb-false most_members (length members) room; new = new; is = cc }
      ]
    ]

-- a further line of a table or pointers is taken, if one is left
pub further_taken : (left : ℕ) (further next : Begun) → (if left == 0 then None else Some further) ≡ Some next → (1 ≤ left) × (further ≡ next)
further_taken zero further next is = absurd (cc)
further_taken (suc left) further next is =
    let more : (suc left == 0) ≡ false = ne_eqb (suc left) 0 (λ e. absurd (omega (arith, e))) in
    (omega arith, (let it : Some further ≡ Some next = rw more at is in cc))

-- the number of further lines stays
pub same_number : {A : Type 0} (found : List A) (one : A) (left : ℕ) → 1 ≤ left → length (found ++ one ∷ []) + (left - 1) ≡ length found + left
same_number found one left some = let longer = length-append found (one ∷ []) in omega (arith, some, longer)

module _ (r next : Begun) where
  -- what is open ends, and this begins
  opened : (pending : Open) (l : Line) → lines_of_open r.settings pending ≡ l ∷ [] → (found : Option (List Record)) → closed r ≡ found
      → option_map (after r r.steps pending) found ≡ Some next → OneMore r l next
  opened pending l one None closes is = absurd (cc)
  opened pending l one (Some done) closes is =
      let same : after r r.steps pending done ≡ next = cc in
      record {
        settings = ap (λ (b : Begun). b.settings) (sym same);
        lines = ap lines_of_begun (sym same) ∙ ap (λ k. lines_of_log done ++ k) one
            ∙ ap (λ k. k ++ l ∷ []) (closed_lines r.settings r.records done r.pending closes);
      }

  whole_more : (carrier : Bool) (entry : Record) → IsWhole r.settings carrier entry → (steps : Option ℕ) → (found : Option (List Record))
      → closed r ≡ found
      → option_and_then (λ n. option_map (λ records. after r n Ready (records ++ entry ∷ [])) found) steps ≡ Some next
      → OneMore r (line.Whole entry) next
  whole_more carrier entry fits None found closes is = absurd (cc)
  whole_more carrier entry fits (Some n) None closes is = absurd (cc)
  whole_more carrier entry fits (Some n) (Some done) closes is =
      let same : after r n Ready (done ++ entry ∷ []) ≡ next = cc in
      record {
        settings = ap (λ (b : Begun). b.settings) (sym same);
        lines = ap lines_of_begun (sym same) ∙ append-nil (lines_of_log (done ++ entry ∷ [])) ∙ lines-push done entry
            ∙ ap (λ k. lines_of_log done ++ k) (whole_lines r.settings carrier entry fits)
            ∙ ap (λ k. k ++ line.Whole entry ∷ []) (closed_lines r.settings r.records done r.pending closes);
      }

  member_more : (name : List ℕ) (pending : Open) → r.pending ≡ pending → member_with r name pending ≡ Some next → OneMore r (line.Member name) next
  member_more name (Members frames members) stands is =
      let taken = member_taken r frames members name next is in
      record {
        settings = ap (λ (b : Begun). b.settings) (sym taken.is);
        lines = ap lines_of_begun (sym taken.is)
            ∙ ap (λ k. lines_of_log r.records ++ line.Begin (record { settings = r.settings; frames = frames }) ∷ k)
            (map-append line.Member members (name ∷ []))
            ∙ sym (append_assoc (lines_of_log r.records) (lines_of_open r.settings (Members frames members)) (line.Member name ∷ []))
            ∙ ap (λ o. lines_so_far r.settings r.records o ++ line.Member name ∷ []) (sym stands);
      }
  member_more name Ready stands is = absurd (cc)
  member_more name (Links n s l m) stands is = absurd (cc)
  member_more name (Pairs n l m) stands is = absurd (cc)
  member_more name Over stands is = absurd (cc)

  link_more : (one : LinkLine) (pending : Open) → r.pending ≡ pending → link_with r one pending ≡ Some next → OneMore r (line.Link one) next
  link_more one (Links name status links left) stands is =
      let taken = further_taken left (after r r.steps (Links name status (links ++ one ∷ []) (left - 1)) r.records) next is in
      record {
        settings = ap (λ (b : Begun). b.settings) (sym taken.1);
        lines = ap lines_of_begun (sym taken.1)
            ∙ ap (λ n. lines_of_log r.records ++ line.Table name status n ∷ map line.Link (links ++ one ∷ [])) (same_number links one left taken.0)
            ∙ ap (λ k. lines_of_log r.records ++ line.Table name status (length links + left) ∷ k) (map-append line.Link links (one ∷ []))
            ∙ sym (append_assoc (lines_of_log r.records) (lines_of_open r.settings (Links name status links left)) (line.Link one ∷ []))
            ∙ ap (λ o. lines_so_far r.settings r.records o ++ line.Link one ∷ []) (sym stands);
      }
  link_more one (Members f m) stands is = absurd (cc)
  link_more one Ready stands is = absurd (cc)
  link_more one (Pairs n l m) stands is = absurd (cc)
  link_more one Over stands is = absurd (cc)

  pair_more : (one : Pair) (pending : Open) → r.pending ≡ pending → pair_with r one pending ≡ Some next → OneMore r (line.Pointer one) next
  pair_more one (Pairs name pairs left) stands is =
      let taken = further_taken left (after r r.steps (Pairs name (pairs ++ one ∷ []) (left - 1)) r.records) next is in
      record {
        settings = ap (λ (b : Begun). b.settings) (sym taken.1);
        lines = ap lines_of_begun (sym taken.1)
            ∙ ap (λ n. lines_of_log r.records ++ line.Pointers name n ∷ map line.Pointer (pairs ++ one ∷ [])) (same_number pairs one left taken.0)
            ∙ ap (λ k. lines_of_log r.records ++ line.Pointers name (length pairs + left) ∷ k) (map-append line.Pointer pairs (one ∷ []))
            ∙ sym (append_assoc (lines_of_log r.records) (lines_of_open r.settings (Pairs name pairs left)) (line.Pointer one ∷ []))
            ∙ ap (λ o. lines_so_far r.settings r.records o ++ line.Pointer one ∷ []) (sym stands);
      }
  pair_more one (Members f m) stands is = absurd (cc)
  pair_more one Ready stands is = absurd (cc)
  pair_more one (Links n s l m) stands is = absurd (cc)
  pair_more one Over stands is = absurd (cc)

-- a line that is taken is the next one after those so far
pub line_more : (r : Begun) (carrier : Bool) (l : Line) (next : Begun) → IsLine r.settings carrier l → line_taken r l ≡ Some next → OneMore r l next
line_more r carrier (line.Whole entry) next fits is = whole_more r next carrier entry fits (steps_with r.steps entry) (closed r) refl is
line_more r carrier (line.Begin first) next fits is = absurd (cc)
line_more r carrier (line.Member name) next fits is = member_more r next name r.pending refl is
line_more r carrier (line.Table name status left) next fits is =
    opened r next (Links name status [] left) (line.Table name status left)
    (let size : 0 + left ≡ left = omega arith in ap (λ n. line.Table name status n ∷ []) size) (closed r) refl is
line_more r carrier (line.Link one) next fits is = link_more r next one r.pending refl is
line_more r carrier (line.Pointers name left) next fits is =
    opened r next (Pairs name [] left) (line.Pointers name left)
    (let size : 0 + left ≡ left = omega arith in ap (λ n. line.Pointers name n ∷ []) size) (closed r) refl is
line_more r carrier (line.Pointer one) next fits is = pair_more r next one r.pending refl is
line_more r carrier line.End next fits is = opened r next Over line.End refl (closed r) refl is
