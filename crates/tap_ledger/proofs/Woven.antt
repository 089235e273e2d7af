-- What the whole log of a run is, of plain records and remarks, and how it grows.
-- Cited above: woven_grows, woven_nothing, woven_remark
use Rattle.std.proofs.Common.{◌≡◌, ℕ, suc, ◌+◌, ◌<◌, ◌≤◌, Bool, true, false, not, nat_eq, List, [], ◌∷◌, ◌++◌, length, filter, map, All, refl, ap, sym, ◌∙◌, arith, cond, append-nil, append_assoc}
use Rattle.std.specs.Prelude.{if◌then◌else◌}
use Rattle.std.proofs.lemmas.Bool.{ne_eqb, eq-eqb}
use Rattle.std.proofs.lemmas.List.{map-append}
use Rattle.std.proofs.lemmas.List.Elements.{All-cons, All-head, All-nil, All-tail, filter-append}
use Rattle.tap_log.specs.declared.record.Record.{Record}
use Rattle.tap_log.specs.Reduced.{is_added, reduced}
use Rattle.tap_ledger.specs.Woven.{Remark, RemarksWithin, remark_after, remark_at, remarks_at, remarks_from, remarks_of, woven, woven_from}

-- ---- the remarks at one place

-- whether a remark stands after so many plain records
abbrev stands_at : ℕ → Remark → Bool
stands_at count r = nat_eq r.plain_before count

-- those of two lists are those of the first, and then those of the second
at_append : (count : ℕ) (a b : List Remark) → remarks_at count (a ++ b) ≡ remarks_at count a ++ remarks_at count b
at_append count a b =
    ap (map (λ r. r.item)) (filter-append (stands_at count) a b)
    ∙ map-append (λ r. r.item) (filter (stands_at count) a) (filter (stands_at count) b)

-- a remark that stands there comes first
at_here : (count : ℕ) (item : Record) (added : List Remark) → remarks_at count (remark_at count item ∷ added) ≡ item ∷ remarks_at count added
at_here count item added =
    let others = filter (stands_at count) added in
    ap (λ b. map (λ r. r.item) (cond {A = List Remark} b (remark_at count item ∷ others) others)) (eq-eqb count count refl)

-- one that stands elsewhere isn't among them
at_others : (count : ℕ) (r : Remark) (added : List Remark) → stands_at count r ≡ false → remarks_at count (r ∷ added) ≡ remarks_at count added
at_others count r added apart =
    let others = filter (stands_at count) added in
    ap (λ b. map (λ x. x.item) (cond {A = List Remark} b (r ∷ others) others)) apart

-- if all stand before that place, none stands there
at_none : (count : ℕ) (added : List Remark) → All (λ r. r.plain_before < count) added → remarks_at count added ≡ []
at_none count [] all = refl
at_none count (r ∷ added) all =
    let first = All-head (λ x. x.plain_before < count) r added all in
    at_others count r added (ne_eqb r.plain_before count (λ same. absurd (omega (arith, same, first))))
    ∙ at_none count added (All-tail (λ x. x.plain_before < count) r added all)

-- ---- no remarks

nothing_from : (count : ℕ) (log : List Record) → woven_from count log [] ≡ log
nothing_from count [] = refl
nothing_from count (item ∷ items) = ap (λ l. item ∷ l) (nothing_from (suc count) items)

-- a log without remarks is the whole log
pub woven_nothing : (log : List Record) → woven log [] ≡ log
woven_nothing log = nothing_from 0 log

-- ---- a whole log in its parts

-- the remarks of a log stand after as many plain records at least as come before it
none_first : (count : ℕ) (start : ℕ) (log : List Record) → count < start → remarks_at count (remarks_from start log) ≡ []
none_first count start [] before = refl
none_first count start (item ∷ items) before =
    by (is_added item) (none_first count start items before) (none_first count (suc start) items (omega (arith, before)))
  where
    by : (added : Bool) → remarks_at count (remarks_from start items) ≡ [] → remarks_at count (remarks_from (suc start) items) ≡ []
        → remarks_at count (if added then remark_at start item ∷ remarks_from start items else remarks_from (suc start) items) ≡ []
    by true here later =
        at_others count (remark_at start item) (remarks_from start items)
        (ne_eqb start count (λ same. absurd (omega (arith, same, before))))
        ∙ here
    by false here later = later

-- a remark that stands before all of some plain records isn't among them
past_remark : (count start : ℕ) (item : Record) (records : List Record) (added : List Remark) → count < start
    → woven_from start records (remark_at count item ∷ added) ≡ woven_from start records added
past_remark count start item [] added before =
    at_others start (remark_at count item) added (ne_eqb count start (λ same. absurd (omega (arith, same, before))))
past_remark count start item (x ∷ xs) added before =
    ap (λ l. l ++ x ∷ woven_from (suc start) xs (remark_at count item ∷ added))
    (at_others start (remark_at count item) added (ne_eqb count start (λ same. absurd (omega (arith, same, before)))))
    ∙ ap (λ l. remarks_at start added ++ x ∷ l) (past_remark count (suc start) item xs added (omega (arith, before)))

-- a remark at the beginning comes first
first_remark : (count : ℕ) (item : Record) (records : List Record) (added : List Remark)
    → woven_from count records (remark_at count item ∷ added) ≡ item ∷ woven_from count records added
first_remark count item [] added = at_here count item added
first_remark count item (x ∷ xs) added =
    ap (λ l. l ++ x ∷ woven_from (suc count) xs (remark_at count item ∷ added)) (at_here count item added)
    ∙ ap (λ l. item ∷ remarks_at count added ++ x ∷ l) (past_remark count (suc count) item xs added (omega arith))

parts_from : (count : ℕ) (log : List Record) → woven_from count (reduced log) (remarks_from count log) ≡ log
parts_from count [] = refl
parts_from count (item ∷ items) = by (is_added item) (parts_from count items) (parts_from (suc count) items)
  where
    by : (added : Bool) → woven_from count (reduced items) (remarks_from count items) ≡ items
        → woven_from (suc count) (reduced items) (remarks_from (suc count) items) ≡ items
        → woven_from count (cond {A = List Record} (not added) (item ∷ reduced items) (reduced items))
        (if added then remark_at count item ∷ remarks_from count items else remarks_from (suc count) items)
        ≡ item ∷ items
    by true here later = first_remark count item (reduced items) (remarks_from count items) ∙ ap (λ l. item ∷ l) here
    by false here later =
        ap (λ l. l ++ item ∷ woven_from (suc count) (reduced items) (remarks_from (suc count) items))
        (none_first count (suc count) items (omega arith))
        ∙ ap (λ l. item ∷ l) later

-- a log is woven of its plain records and its remarks
pub woven_parts : (log : List Record) → woven (reduced log) (remarks_of log) ≡ log
woven_parts log = parts_from 0 log

-- ---- one more record

-- the plain records with one more
pub reduced_plain : (log : List Record) (item : Record) → is_added item ≡ false → reduced (log ++ item ∷ []) ≡ reduced log ++ item ∷ []
reduced_plain log item plain =
    filter-append (λ other. not (is_added other)) log (item ∷ [])
    ∙ ap (λ b. reduced log ++ cond {A = List Record} (not b) (item ∷ []) []) plain

-- a remark changes no plain record
pub reduced_remark : (log : List Record) (item : Record) → is_added item ≡ true → reduced (log ++ item ∷ []) ≡ reduced log
reduced_remark log item added =
    filter-append (λ other. not (is_added other)) log (item ∷ [])
    ∙ ap (λ b. reduced log ++ cond {A = List Record} (not b) (item ∷ []) []) added ∙ append-nil (reduced log)

-- the remarks of one record
abbrev one_remark : Bool → ℕ → Record → List Remark
one_remark added count item = if added then remark_at count item ∷ [] else []

-- one more record is one more remark, or none
remarks_push : (count : ℕ) (log : List Record) (item : Record)
    → remarks_from count (log ++ item ∷ []) ≡ remarks_from count log ++ one_remark (is_added item) (count + length (reduced log)) item
remarks_push count [] item = by (is_added item)
  where
    by : (added : Bool) → (if added then remark_at count item ∷ [] else []) ≡ one_remark added (count + 0) item
    by added = ap (λ n. one_remark added n item) (omega arith)
remarks_push count (x ∷ xs) item = by (is_added x) (remarks_push count xs item) (remarks_push (suc count) xs item)
  where
    more : ℕ → List Remark
    more n = one_remark (is_added item) n item

    by : (added : Bool) → remarks_from count (xs ++ item ∷ []) ≡ remarks_from count xs ++ more (count + length (reduced xs))
        → remarks_from (suc count) (xs ++ item ∷ []) ≡ remarks_from (suc count) xs ++ more (suc count + length (reduced xs))
        → (if added then remark_at count x ∷ remarks_from count (xs ++ item ∷ []) else remarks_from (suc count) (xs ++ item ∷ []))
        ≡ (if added then remark_at count x ∷ remarks_from count xs else remarks_from (suc count) xs)
        ++ more (count + length (cond {A = List Record} (not added) (x ∷ reduced xs) (reduced xs)))
    by true here later = ap (λ l. remark_at count x ∷ l) here
    by false here later = later ∙ ap (λ n. remarks_from (suc count) xs ++ more n) (omega arith)

-- one more plain record changes no remark
pub remarks_plain : (log : List Record) (item : Record) → is_added item ≡ false → remarks_of (log ++ item ∷ []) ≡ remarks_of log
remarks_plain log item plain =
    remarks_push 0 log item ∙ ap (λ b. remarks_of log ++ one_remark b (0 + length (reduced log)) item) plain ∙ append-nil (remarks_of log)

-- one more remark comes last
pub remarks_more : (log : List Record) (item : Record) → is_added item ≡ true
    → remarks_of (log ++ item ∷ []) ≡ remarks_of log ++ remark_after (reduced log) item ∷ []
remarks_more log item added =
    let none : 0 + length (reduced log) ≡ length (reduced log) = omega arith in
    remarks_push 0 log item ∙ ap (λ b. remarks_of log ++ one_remark b (0 + length (reduced log)) item) added
    ∙ ap (λ n. remarks_of log ++ remark_at n item ∷ []) none

-- no more records are plain than there are
pub reduced_within : (log : List Record) → length (reduced log) ≤ length log
reduced_within [] = omega arith
reduced_within (item ∷ items) = by (is_added item) (reduced_within items)
  where
    by : (added : Bool) → length (reduced items) ≤ length items
        → length (cond {A = List Record} (not added) (item ∷ reduced items) (reduced items)) ≤ length (item ∷ items)
    by true few = omega (arith, few)
    by false few = omega (arith, few)

-- the remarks of a log, before which there are so many plain records, stand within it
within_from : (count : ℕ) (log : List Record) → All (λ r. r.plain_before ≤ count + length (reduced log)) (remarks_from count log)
within_from count [] = All-nil (λ r. r.plain_before ≤ count + 0)
within_from count (item ∷ items) = by (is_added item) (within_from count items) (within_from (suc count) items)
  where
    by : (added : Bool) → All (λ r. r.plain_before ≤ count + length (reduced items)) (remarks_from count items)
        → All (λ r. r.plain_before ≤ suc count + length (reduced items)) (remarks_from (suc count) items)
        → All (λ r. r.plain_before ≤ count + length (cond {A = List Record} (not added) (item ∷ reduced items) (reduced items)))
        (if added then remark_at count item ∷ remarks_from count items else remarks_from (suc count) items)
    by true here later =
        All-cons (λ r. r.plain_before ≤ count + length (reduced items)) (remark_at count item) (remarks_from count items) (omega arith) here
    by false here later = λ k d within. let below = later k d within in omega (arith, below)

-- the remarks of a whole log stand within its plain records
pub remarks_within : (log : List Record) → RemarksWithin (reduced log) (remarks_of log)
remarks_within log = λ k d within. let below = within_from 0 log k d within in omega (arith, below)

-- ---- how a whole log grows

-- after the last remark stand plain records alone
rest_grows : (count : ℕ) (more : List Record) (added : List Remark) → All (λ r. r.plain_before < count) added
    → woven_from count more added ≡ more
rest_grows count [] added all = at_none count added all
rest_grows count (x ∷ xs) added all =
    ap (λ l. l ++ x ∷ woven_from (suc count) xs added) (at_none count added all)
    ∙ ap (λ l. x ∷ l) (rest_grows (suc count) xs added
    (λ k d within. let below = all k d within in omega (arith, below)))

grows_from : (count : ℕ) (log more : List Record) (added : List Remark) → All (λ r. r.plain_before ≤ count + length log) added
    → woven_from count (log ++ more) added ≡ woven_from count log added ++ more
grows_from count [] [] added all = sym (append-nil (remarks_at count added))
grows_from count [] (x ∷ xs) added all =
    ap (λ l. remarks_at count added ++ x ∷ l) (rest_grows (suc count) xs added
    (λ k d within. let below = all k d within in omega (arith, below)))
grows_from count (x ∷ xs) more added all =
    ap (λ l. remarks_at count added ++ x ∷ l) (grows_from (suc count) xs more added
    (λ k d within. let below = all k d within in omega (arith, below)))
    ∙ sym (append_assoc (remarks_at count added) (x ∷ woven_from (suc count) xs added) more)

-- Plain records come last in the whole log, if no remark says that it stands after more of them than there were.
pub woven_grows : (log more : List Record) (added : List Remark) → RemarksWithin log added → woven (log ++ more) added ≡ woven log added ++ more
woven_grows log more added all = grows_from 0 log more added (λ k d within. let below = all k d within in omega (arith, below))

remark_from : (count : ℕ) (log : List Record) (added : List Remark) (item : Record)
    → woven_from count log (added ++ remark_at (count + length log) item ∷ []) ≡ woven_from count log added ++ item ∷ []
remark_from count [] added item =
    ap (λ n. remarks_at count (added ++ remark_at n item ∷ [])) (omega arith)
    ∙ at_append count added (remark_at count item ∷ [])
    ∙ ap (λ l. remarks_at count added ++ l) (at_here count item [])
remark_from count (x ∷ xs) added item =
    let last = remark_at (count + length (x ∷ xs)) item in
    let same : suc count + length xs ≡ count + length (x ∷ xs) = omega arith in
    ap (λ l. l ++ x ∷ woven_from (suc count) xs (added ++ last ∷ []))
    (at_append count added (last ∷ [])
    ∙ ap (λ l. remarks_at count added ++ l) (at_others count last [] (ne_eqb last.plain_before count (λ is. absurd (omega (arith, is)))))
    ∙ append-nil (remarks_at count added))
    ∙ ap (λ l. remarks_at count added ++ x ∷ l)
    (ap (λ n. woven_from (suc count) xs (added ++ remark_at n item ∷ [])) (sym same) ∙ remark_from (suc count) xs added item)
    ∙ sym (append_assoc (remarks_at count added) (x ∷ woven_from (suc count) xs added) (item ∷ []))

-- a remark at the end of the log comes last in the whole log
pub woven_remark : (log : List Record) (added : List Remark) (item : Record)
    → woven log (added ++ remark_after log item ∷ []) ≡ woven log added ++ item ∷ []
woven_remark log added item =
    let none : 0 + length log ≡ length log = omega arith in
    ap (λ n. woven log (added ++ remark_at n item ∷ [])) (sym none) ∙ remark_from 0 log added item
