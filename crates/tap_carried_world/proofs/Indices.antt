-- The index of the step that begins next, and that a run which goes on has not finished.
use Rattle.std.proofs.Common.{◌≡◌, ℕ, zero, suc, ◌+◌, false, List, [], ◌∷◌, ◌++◌, Option, None, Some, refl, ap, sym, ◌∙◌, arith}
use Rattle.std.specs.Prelude.{unwrap_or}
use Rattle.std.specs.List.{filter_map, last_or, range_with_len}
use Rattle.tap_log.specs.declared.record.Record.{Record}
use Rattle.tap_log.specs.declared.record.Record.TheVariants.{Finished, Step as StepRecord}
use Rattle.tap_history.specs.Groups.{ends_log, is_ended}
use Rattle.tap_history.proofs.Numbering.{range-append}
use Rattle.tap_engine.specs.Kinds.{begun_index, begun_indices, finishes_run, is_finished, last_index}
use Rattle.tap_lawful.specs.PlayedLaws.{index_of}

-- ---- a log that hasn't ended

unfinished_item : (item : Record) → ends_log item ≡ false → finishes_run item ≡ false
unfolding ends_log finishes_run
unfinished_item (Finished steps) is = absurd (cc)
unfinished_item item is = refl

pub unfinished : (log : List Record) → is_ended log ≡ false → is_finished log ≡ false
unfinished [] is = refl
unfinished (item ∷ []) is = unfinished_item item is
unfinished (item ∷ next ∷ items) is = unfinished (next ∷ items) is

-- ---- indices

index_one : (item : Record) (items : List Record) → filter_map begun_index items ≡ filter_map index_of items
    → filter_map begun_index (item ∷ items) ≡ filter_map index_of (item ∷ items)
unfolding begun_index index_of
index_one (StepRecord index step) items same = ap (λ l. index ∷ l) same
index_one item items same = same

indices_same : (log : List Record) → begun_indices log ≡ filter_map index_of log
indices_same [] = refl
indices_same (item ∷ items) = index_one item items (indices_same items)

last_push : (o : Option ℕ) (xs : List ℕ) (x : ℕ) → last_or o (xs ++ x ∷ []) ≡ Some x
last_push o [] x = refl
last_push o (y ∷ xs) x = last_push (Some y) xs x

-- the last of so many numbers from 1 on
last_number : (count : ℕ) → unwrap_or (last_or None (range_with_len 1 count)) 0 ≡ count
last_number zero = refl
last_number (suc count) =
    let all : range_with_len 1 count ++ (1 + count) ∷ [] ≡ range_with_len 1 (count + 1) = range-append 1 count 1 in
    let more : range_with_len 1 (count + 1) ≡ range_with_len 1 (suc count) = ap (range_with_len 1) (let e : count + 1 ≡ suc count = omega arith in e) in
    let last : last_or None (range_with_len 1 (suc count)) ≡ Some (1 + count) =
    sym (ap (last_or None) (all ∙ more)) ∙ last_push None (range_with_len 1 count) (1 + count) in
    ap (λ o. unwrap_or o 0) last ∙ (let e : 1 + count ≡ suc count = omega arith in e)

-- the last index is how many steps have begun, if they are numbered from 1
pub last_is_count : (log : List Record) (count : ℕ) → filter_map index_of log ≡ range_with_len 1 count → last_index log ≡ count
last_is_count log count are = ap (λ l. unwrap_or (last_or None l) 0) (indices_same log ∙ are) ∙ last_number count
