-- The last index of a list of records that grows, and the last record, as the tests find them.
use Rattle.std.proofs.Common.{◌≡◌, ℕ, ◌+◌, ◌<◌, Bool, true, false, not, cond, List, [], ◌∷◌, ◌++◌, length, get_or, take, inl, length-append, ◌≤◌, Option, None, Some, refl, ap, sym, ◌∙◌, arith}
use Rattle.std.specs.Prelude.{◌||◌, option_and_then, unwrap_or}
use Rattle.std.specs.List.{cons_option, filter_map, last_or, list_any}
use Rattle.std.proofs.lemmas.List.{take_more}
use Rattle.std.proofs.lemmas.List.Elements.{filter_map-append}
use Rattle.tap_scenario.specs.declared.step.Step.{Step}
use Rattle.tap_log.specs.declared.record.Record.{Record}
use Rattle.tap_log.specs.declared.record.Record.TheVariants.{Step as StepRecord}
use Rattle.tap_log.specs.declared.record.Refusal.{Refusal}
use Rattle.tap_log.specs.MoreRecords.{at_most_one}
use Rattle.tap_log.specs.Log.{last_of}
use Rattle.tap_log.specs.Reduced.{is_added, reduced}
use Rattle.tap_engine.specs.Kinds.{begun_index, begun_indices, finishes_run, is_finished, last_index}
use Rattle.tap_engine.specs.Outcome.{MayNote}
use Rattle.tap_engine.specs.World.{WorldValue}

last_more : (o : Option ℕ) (xs : List ℕ) (found : Option ℕ)
    → unwrap_or (last_or o (xs ++ cons_option found [])) 0 ≡ unwrap_or found (unwrap_or (last_or o xs) 0)
last_more o [] None = refl
last_more o [] (Some x) = refl
last_more o (x ∷ xs) found = last_more (Some x) xs found

-- with one more record
pub index_more : (records : List Record) (i : ℕ) (item : Record) (last : ℕ) → i < length records → item ≡ get_or records i item
    → last ≡ last_index (take i records) → unwrap_or (begun_index item) last ≡ last_index (take (i + 1) records)
index_more records i item last within is so_far =
    let more : take (i + 1) records ≡ take i records ++ item ∷ [] =
    take_more records i item within ∙ ap (λ (x : Record). take i records ++ x ∷ []) (sym is) in
    ap (unwrap_or (begun_index item)) so_far ∙ sym (last_more None (filter_map begun_index (take i records)) (begun_index item))
    ∙ sym (ap last_index more ∙ ap (λ l. unwrap_or (last_or None l) 0) (filter_map-append begun_index (take i records) (item ∷ [])))

one_there : (found : Option ℕ) → length (cons_option found []) ≡ length (at_most_one found)
one_there None = refl
one_there (Some x) = refl

pub count_more : (records : List Record) (i : ℕ) (item : Record) (count more : ℕ) → i < length records → item ≡ get_or records i item
    → count ≡ length (begun_indices (take i records)) → more ≡ length (at_most_one (begun_index item))
    → count + more ≡ length (begun_indices (take (i + 1) records))
count_more records i item count more within is so_far has =
    let longer : take (i + 1) records ≡ take i records ++ item ∷ [] =
    take_more records i item within ∙ ap (λ (x : Record). take i records ++ x ∷ []) (sym is) in
    let all = ap (λ l. length (begun_indices l)) longer ∙ ap length (filter_map-append begun_index (take i records) (item ∷ []))
    ∙ length-append (begun_indices (take i records)) (cons_option (begun_index item) []) in
    let one = one_there (begun_index item) in
    omega (arith, all, one, so_far, has)

pub one_most : (found : Option ℕ) → length (at_most_one found) ≤ 1
one_most None = omega arith
one_most (Some x) = omega arith

-- the refusal of the last record, which is a step, may be noted
step_so : (index : ℕ) (refusal : Refusal) (w : WorldValue) (last : Option Record) → last_of w.log ≡ last → option_and_then begun_index last ≡ Some index
    → w.refused ≡ Some refusal → MayNote w index refusal
unfolding begun_index
step_so index refusal w None at is refused = cc
step_so index refusal w (Some (StepRecord found step)) at is refused =
    let same : found ≡ index = cc in
    record { step = step; last = at ∙ ap (λ i. Some (StepRecord i step)) same; may = inl refused }
step_so index refusal w (Some item) at is refused = cc

pub may_note : (index : ℕ) (refusal : Refusal) (w : WorldValue) → option_and_then begun_index (last_of w.log) ≡ Some index
    → w.refused ≡ Some refusal → MayNote w index refusal
may_note index refusal w is refused = step_so index refusal w (last_of w.log) refl is refused

-- ---- without remarks

-- a remark begins no step
remark_begins : (item : Record) → is_added item ≡ true → begun_index item ≡ None
unfolding is_added begun_index
remark_begins (StepRecord index step) is = absurd (cc)
remark_begins item is = refl

-- the indices of a log are those of its plain records
pub begun_plain : (log : List Record) → begun_indices (reduced log) ≡ begun_indices log
begun_plain [] = refl
begun_plain (item ∷ items) = by (is_added item) refl (begun_plain items)
  where
    by : (added : Bool) → is_added item ≡ added → begun_indices (reduced items) ≡ begun_indices items
        → begun_indices (cond {A = List Record} (not added) (item ∷ reduced items) (reduced items))
        ≡ cons_option (begun_index item) (begun_indices items)
    by true is same = same ∙ sym (ap (λ o. cons_option o (begun_indices items)) (remark_begins item is))
    by false is same = ap (cons_option (begun_index item)) same

-- what comes last, comes last after one more before it
last_cons : (first : Record) (items : List Record) (item : Record) → last_of items ≡ Some item → last_of (first ∷ items) ≡ Some item
last_cons first [] item is = absurd (cc)
last_cons first (next ∷ items) item is = is

-- a last record that is plain is the last plain one
last_plain : (log : List Record) (item : Record) → last_of log ≡ Some item → is_added item ≡ false → last_of (reduced log) ≡ Some item
last_plain [] item is plain = absurd (cc)
last_plain (first ∷ []) item is plain =
    let same : first ≡ item = cc in
    ap (λ b. last_of (cond {A = List Record} (not b) (first ∷ []) [])) (ap is_added same ∙ plain) ∙ is
last_plain (first ∷ next ∷ items) item is plain = by (is_added first) (last_plain (next ∷ items) item is plain)
  where
    by : (added : Bool) → last_of (reduced (next ∷ items)) ≡ Some item
        → last_of (cond {A = List Record} (not added) (first ∷ reduced (next ∷ items)) (reduced (next ∷ items))) ≡ Some item
    by true later = later
    by false later = last_cons first (reduced (next ∷ items)) item later

plain_step : (index : ℕ) (step : Step) → is_added (StepRecord index step) ≡ false
unfolding is_added
plain_step index step = refl

-- the step that comes last is the last plain record
pub last_step : (log : List Record) (index : ℕ) → option_and_then begun_index (last_of log) ≡ Some index
    → option_and_then begun_index (last_of (reduced log)) ≡ Some index
unfolding begun_index
last_step log index is = by (last_of log) refl is
  where
    by : (last : Option Record) → last_of log ≡ last → option_and_then begun_index last ≡ Some index
        → option_and_then begun_index (last_of (reduced log)) ≡ Some index
    by None at so = absurd (cc)
    by (Some (StepRecord found step)) at so =
        ap (option_and_then begun_index) (last_plain log (StepRecord found step) at (plain_step found step)) ∙ so
    by (Some item) at so = absurd (cc)

-- if no record finishes the run, the plain ones have not finished
none_plain : (log : List Record) → list_any finishes_run log ≡ false → list_any finishes_run (reduced log) ≡ false
none_plain [] none = refl
none_plain (item ∷ items) none = by (is_added item) (finishes_run item) (list_any finishes_run items) none refl (none_plain items)
  where
    by : (added finishes later : Bool) → (finishes || later) ≡ false → finishes_run item ≡ finishes
        → (later ≡ false → list_any finishes_run (reduced items) ≡ false)
        → list_any finishes_run (cond {A = List Record} (not added) (item ∷ reduced items) (reduced items)) ≡ false
    by added true later so is rest = absurd (cc)
    by true false later so is rest = rest so
    by false false later so is rest = ap (λ b. b || list_any finishes_run (reduced items)) is ∙ rest so

unfinished_last : (log : List Record) → list_any finishes_run log ≡ false → is_finished log ≡ false
unfinished_last [] none = refl
unfinished_last (item ∷ []) none = by (finishes_run item) none
  where
    by : (finishes : Bool) → (finishes || false) ≡ false → finishes ≡ false
    by true so = so
    by false so = refl
unfinished_last (item ∷ next ∷ items) none = by (finishes_run item) none (unfinished_last (next ∷ items))
  where
    by : (finishes : Bool) → (finishes || list_any finishes_run (next ∷ items)) ≡ false
        → (list_any finishes_run (next ∷ items) ≡ false → is_finished (next ∷ items) ≡ false) → is_finished (next ∷ items) ≡ false
    by true so rest = absurd (cc)
    by false so rest = rest so

pub unfinished_plain : (log : List Record) → list_any finishes_run log ≡ false → is_finished (reduced log) ≡ false
unfinished_plain log none = unfinished_last (reduced log) (none_plain log none)
