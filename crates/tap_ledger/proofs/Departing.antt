-- Who departs after one more record.
use Rattle.std.proofs.Common.{◌≡◌, ℕ, zero, suc, ◌≤◌, Bool, true, false, List, [], ◌∷◌, ◌++◌, length, All, Option, None, Some, inl, inr, refl, ap, sym, ◌∙◌, append_assoc, drop, arith}
use Rattle.std.specs.Prelude.{if◌then◌else◌, option_and_then}
use Rattle.std.specs.List.{filter_map, cons_option, last_or}
use Rattle.std.proofs.lemmas.List.Elements.{All-head, All-tail, All-push, filter_map-append}
use Rattle.tap_scenario.specs.declared.step.Step.{Step}
use Rattle.tap_log.specs.declared.record.Record.{Record}
use Rattle.tap_log.specs.declared.record.Record.TheVariants.{Step as StepRecord}
use Rattle.tap_log.specs.Kinds.{accepts, begins_group, is_carried, step_of}
use Rattle.tap_log.specs.MoreRecords.{at_most_one, first_of_both}
use Rattle.tap_log.specs.Log.{last_of}
use Rattle.tap_history.specs.Core.{accepted_in, accepted_step}
use Rattle.tap_history.specs.Departing.{departing_of, last_still}
use Rattle.tap_history.specs.Moments.{is_still}
use Rattle.tap_history.specs.RecordLaws.{accepted_next}
use Rattle.tap_history.specs.StepAsks.{depart_name}
use Rattle.tap_history.proofs.RecordChanges.{one_before}
use Rattle.tap_history.proofs.OneMoreGroup.{one_more_group_holds}
use Rattle.tap_ledger.specs.KeptLedger.{HasNoStep, Leaves, LeavesInGroup, leaver_next}
use Rattle.tap_ledger.specs.NameLists.{accepted_after}
use Rattle.tap_ledger.proofs.Accepted.{named_by}

-- ---- lists

-- the last of two lists is the last of the second, if that has one
last_or-append : {X : Type 0} (o : Option X) (xs ys : List X) → last_or o (xs ++ ys) ≡ last_or (last_or o xs) ys
last_or-append o [] ys = refl
last_or-append o (x ∷ xs) ys = last_or-append (Some x) xs ys

-- the last of one element or none
last_or-one : {X : Type 0} (o one : Option X) → last_or o (at_most_one one) ≡ first_of_both one o
last_or-one o None = refl
last_or-one o (Some x) = refl

-- the last record of a log is the last of its last group
last_of-group : (before : List Record) (first : Record) (after : List Record) → last_of (before ++ first ∷ after) ≡ last_of (first ∷ after)
last_of-group [] first after = refl
last_of-group (item ∷ []) first after = refl
last_of-group (item ∷ next ∷ items) first after = last_of-group (next ∷ items) first after

-- ---- accepted steps

-- one more record accepts one more step, or none
accepted_in-push : (log : List Record) (item : Record)
    → accepted_in false (log ++ item ∷ []) ≡ accepted_in false log ++ accepted_next false (last_of log) item
accepted_in-push [] item = refl
accepted_in-push (first ∷ []) item = refl
accepted_in-push (first ∷ next ∷ items) item =
    ap (λ l. cons_option (accepted_step false (first, next)) l) (accepted_in-push (next ∷ items) item)
    ∙ one_before (accepted_step false (first, next)) (accepted_in false (next ∷ items))
    (accepted_next false (last_of (next ∷ items)) item)

-- who departs in a group with one more record
leaver_more : (o : Option (List ℕ)) (group : List Record) (item : Record)
    → last_or o (filter_map depart_name (accepted_in false (group ++ item ∷ [])))
    ≡ first_of_both (option_and_then depart_name (accepted_after (last_of group) item))
    (last_or o (filter_map depart_name (accepted_in false group)))
leaver_more o group item =
    let old = filter_map depart_name (accepted_in false group) in
    let one = option_and_then depart_name (accepted_after (last_of group) item) in
    ap (λ l. last_or o (filter_map depart_name l)) (accepted_in-push group item)
    ∙ ap (last_or o) (filter_map-append depart_name (accepted_in false group) (accepted_next false (last_of group) item))
    ∙ ap (λ l. last_or o (old ++ l)) (named_by depart_name (last_of group) item)
    ∙ last_or-append o old (at_most_one one)
    ∙ last_or-one (last_or o old) one

-- no step is no step, accepted or not
none_either : (accepted : Bool) (one : Option Step) → one ≡ None → (if accepted then one else None) ≡ None
none_either true one none = none
none_either false one none = refl

-- a record that begins no step has none that is accepted
step_none : (carried : Bool) (first next : Record) → step_of first ≡ None → accepted_step carried (first, next) ≡ None
unfolding accepted_step
step_none carried first next none = none_either (accepts carried next) (step_of first) none

-- if no step has begun, none is accepted
no_step : (carried : Bool) (log : List Record) → All (λ item. step_of item ≡ None) log → accepted_in carried log ≡ []
no_step carried [] none = refl
no_step carried (first ∷ []) none = refl
no_step carried (first ∷ next ∷ items) none =
    ap (λ o. cons_option o (accepted_in carried (next ∷ items)))
    (step_none carried first next (All-head (λ item. step_of item ≡ None) first (next ∷ items) none))
    ∙ no_step carried (next ∷ items) (All-tail (λ item. step_of item ≡ None) first (next ∷ items) none)

-- nor does one more record accept any
no_next_step : (log : List Record) (item : Record) → All (λ other. step_of other ≡ None) log → accepted_after (last_of log) item ≡ None
no_next_step [] item none = refl
no_next_step (first ∷ []) item none = step_none false first item (All-head (λ other. step_of other ≡ None) first [] none)
no_next_step (first ∷ next ∷ items) item none =
    no_next_step (next ∷ items) item (All-tail (λ other. step_of other ≡ None) first (next ∷ items) none)

-- what holds of each element holds of the last ones
All-dropped : {X : Type 0} (P : X → Type 0) (k : ℕ) (xs : List X) → All P xs → All P (drop k xs)
All-dropped P zero xs all = all
All-dropped P (suc k) [] all = all
All-dropped P (suc k) (x ∷ xs) all = All-dropped P k xs (All-tail P x xs all)

-- a record that begins no group begins no step
no_step_begins : (item : Record) → begins_group false item ≡ false → step_of item ≡ None
unfolding begins_group
no_step_begins (StepRecord index step) not_begun = absurd (cc)
no_step_begins item not_begun = refl

-- ---- who departs

-- anything holds of each of no elements
pub All-none : {X : Type 0} (P : X → Type 0) → All P []
All-none P k d within = absurd (omega arith)

-- a record that begins a group: who departed before it
begins_more : (log : List Record) (leaver departs : Option (List ℕ)) (item : Record) → 1 ≤ length log → is_carried log ≡ false
    → begins_group false item ≡ true
    → Leaves (log ++ item ∷ []) (leaver_next (begins_group false item) (departing_of log) departs leaver)
begins_more log leaver departs item begun uncarried begins =
    let departing : leaver_next (begins_group false item) (departing_of log) departs leaver ≡ departing_of log =
    ap (λ b. leaver_next b (departing_of log) departs leaver) begins in
    inr (record {
      before = log;
      first = item;
      after = [];
      whole = refl;
      group = record {
        begun = begun;
        begins = ap (λ b. begins_group b item) uncarried ∙ begins;
        alone = All-none (λ other. begins_group (is_carried log) other ≡ false);
      };
      uncarried = uncarried;
      departs = departing;
    })

-- a record that begins no group, if no step has begun: nobody
none_more : (log : List Record) (leaver : Option (List ℕ)) (item : Record) → begins_group false item ≡ false → HasNoStep log leaver
    → Leaves (log ++ item ∷ [])
    (leaver_next (begins_group false item) (departing_of log) (option_and_then depart_name (accepted_after (last_of log) item)) leaver)
none_more log leaver item within stepless =
    let departing = departing_of log in
    let none = ap (option_and_then depart_name) (no_next_step log item stepless.none) in
    inl (record {
      none = All-push (λ other. step_of other ≡ None) log item stepless.none (no_step_begins item within);
      nobody = ap (λ b. leaver_next b departing (option_and_then depart_name (accepted_after (last_of log) item)) leaver) within
          ∙ ap (λ o. first_of_both o leaver) none ∙ stepless.nobody;
    })

-- a record of the last group: whose departure it accepts, or else who departed
goes_on : (log : List Record) (leaver : Option (List ℕ)) (item : Record) → begins_group false item ≡ false → LeavesInGroup log leaver
    → Leaves (log ++ item ∷ [])
    (leaver_next (begins_group false item) (departing_of log) (option_and_then depart_name (accepted_after (last_of log) item)) leaver)
goes_on log leaver item within in_group =
    let before = in_group.before in
    let first = in_group.first in
    let after = in_group.after in
    let group = in_group.group in
    let Alone : Record → Type 0 = λ other. begins_group (is_carried before) other ≡ false in
    let one : List Record → Option (List ℕ) = λ l. option_and_then depart_name (accepted_after (last_of l) item) in
    let last : one log ≡ one (first ∷ after) =
    ap one in_group.whole ∙ ap (λ o. option_and_then depart_name (accepted_after o item)) (last_of-group before first after) in
    inr (record {
      before = before;
      first = first;
      after = after ++ item ∷ [];
      whole = ap (λ l. l ++ item ∷ []) in_group.whole ∙ append_assoc before (first ∷ after) (item ∷ []);
      group = record {
        begun = group.begun;
        begins = group.begins;
        alone = All-push Alone after item group.alone (ap (λ b. begins_group b item) in_group.uncarried ∙ within);
      };
      uncarried = in_group.uncarried;
      departs = ap (λ b. leaver_next b (departing_of log) (one log) leaver) within
          ∙ ap (λ o. first_of_both o leaver) last
          ∙ ap (first_of_both (one (first ∷ after))) in_group.departs
          ∙ sym (leaver_more (departing_of before) (first ∷ after) item);
    })

-- a record that begins no group
within_more : (log : List Record) (leaver : Option (List ℕ)) (item : Record) → begins_group false item ≡ false → Leaves log leaver
    → Leaves (log ++ item ∷ [])
    (leaver_next (begins_group false item) (departing_of log) (option_and_then depart_name (accepted_after (last_of log) item)) leaver)
within_more log leaver item within (inl stepless) = none_more log leaver item within stepless
within_more log leaver item within (inr in_group) = goes_on log leaver item within in_group

-- a record that begins a group, or not
leaves_by : (begins : Bool) (log : List Record) (leaver : Option (List ℕ)) (item : Record) → begins_group false item ≡ begins
    → 1 ≤ length log → is_carried log ≡ false → Leaves log leaver
    → Leaves (log ++ item ∷ [])
    (leaver_next (begins_group false item) (departing_of log) (option_and_then depart_name (accepted_after (last_of log) item)) leaver)
leaves_by true log leaver item is begun uncarried leaves =
    begins_more log leaver (option_and_then depart_name (accepted_after (last_of log) item)) item begun uncarried is
leaves_by false log leaver item is begun uncarried leaves = within_more log leaver item is leaves

-- who departs after one more record of a log that isn't carried
pub leaves_push : (log : List Record) (leaver : Option (List ℕ)) (item : Record) → 1 ≤ length log → is_carried log ≡ false
    → Leaves log leaver
    → Leaves (log ++ item ∷ [])
    (leaver_next (begins_group false item) (departing_of log) (option_and_then depart_name (accepted_after (last_of log) item)) leaver)
leaves_push log leaver item begun uncarried leaves = leaves_by (begins_group false item) log leaver item refl begun uncarried leaves

-- nobody departs, be a frame outstanding or not
nobody_either : (still : Bool) (leaver : Option (List ℕ)) → leaver ≡ None → (if still then None else leaver) ≡ None
nobody_either true leaver none = refl
nobody_either false leaver none = none

-- the node that departs, unless no frame is outstanding, is the one that is departing
pub departing_is : (log : List Record) (leaver : Option (List ℕ)) → Leaves log leaver
    → (if is_still log then None else leaver) ≡ departing_of log
departing_is log leaver (inl stepless) =
    nobody_either (is_still log) leaver stepless.nobody
    ∙ sym (ap (λ l. last_or None (filter_map depart_name l)) (no_step (is_carried log) (drop (last_still log) log)
    (All-dropped (λ item. step_of item ≡ None) (last_still log) log stepless.none)))
departing_is log leaver (inr in_group) =
    let before = in_group.before in
    let group = in_group.first ∷ in_group.after in
    let By : List Record → Option (List ℕ) = λ l. if is_still l then None else leaver in
    let of_group : Bool → Option (List ℕ) = λ b. last_or (departing_of before) (filter_map depart_name (accepted_in b group)) in
    ap By in_group.whole
    ∙ ap (λ o. if is_still (before ++ group) then None else o) (in_group.departs ∙ sym (ap of_group in_group.uncarried))
    ∙ sym (one_more_group_holds.departing before in_group.first in_group.after in_group.group)
    ∙ sym (ap departing_of in_group.whole)
