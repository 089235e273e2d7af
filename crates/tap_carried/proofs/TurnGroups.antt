-- What becomes of the group of a turn in the reduced log.
-- Cited above: reduced-append, turn_group, turn_reduced
use Rattle.std.proofs.Common.{◌≡◌, ◌⊎◌, inl, inr, ℕ, Bool, true, false, not, List, [], ◌∷◌, ◌++◌, filter, All, refl, ap, sym, ◌∙◌, cond, append-nil}
use Rattle.std.proofs.lemmas.Bool.{false≢true}
use Rattle.std.proofs.lemmas.List.Elements.{All-cons, All-head, All-tail, filter-append}
use Rattle.tap_log.specs.declared.record.Record.{Record}
use Rattle.tap_log.specs.declared.record.Record.TheVariants.{Step as StepRecord, Taken, Arrived, Ticked}
use Rattle.tap_log.specs.Kinds.{begins_group}
use Rattle.tap_log.specs.Reduced.{is_added, reduced}
use Rattle.tap_history.specs.Core.{accepted_in}
use Rattle.tap_history.specs.StepAsks.{is_start}
use Rattle.tap_carried.specs.LogTurns.{IsAddedRecord, IsPlainRecord, IsTurn, Turn, group_of_turn, reduced_group}
use Rattle.tap_carried.specs.LogTurns.Turn.{Arrives, Steps, Takes, Ticks}
use Rattle.tap_carried.proofs.SameStarts.{HasNoStep, added_within, both_within, no_steps, none_accepted, plain_within, starts_in, step_same}

-- ---- reduced

pub reduced-append : (xs ys : List Record) → reduced (xs ++ ys) ≡ reduced xs ++ reduced ys
reduced-append xs ys = filter-append (λ item. not (is_added item)) xs ys

all_kept : (items : List Record) → All IsPlainRecord items → reduced items ≡ items
all_kept [] all = refl
all_kept (item ∷ items) all =
    ap (λ b. cond {A = List Record} (not b) (item ∷ reduced items) (reduced items)) (All-head IsPlainRecord item items all).kept
    ∙ ap (λ l. item ∷ l) (all_kept items (All-tail IsPlainRecord item items all))

none_kept : (items : List Record) → All IsAddedRecord items → reduced items ≡ []
none_kept [] all = refl
none_kept (item ∷ items) all =
    ap (λ b. cond {A = List Record} (not b) (item ∷ reduced items) (reduced items)) (All-head IsAddedRecord item items all).left_out
    ∙ none_kept items (All-tail IsAddedRecord item items all)

items_kept : (items added : List Record) → All IsPlainRecord items → All IsAddedRecord added → reduced (items ++ added) ≡ items
items_kept items added plain left_out =
    reduced-append items added ∙ ap (λ l. reduced items ++ l) (none_kept added left_out) ∙ append-nil (reduced items) ∙ all_kept items plain

-- the reduced log has of a turn what the definition says
pub turn_reduced : (c : Bool) (turn : Turn) → IsTurn c turn → reduced (group_of_turn c turn) ≡ reduced_group turn
unfolding is_added
turn_reduced c (Steps index step items added) is = ap (λ l. StepRecord index step ∷ l) (items_kept items added is.0 is.1.0)
turn_reduced true (Takes packet frame items added) is = ap (λ l. Taken frame ∷ l) (items_kept items added is.0 is.1)
turn_reduced false (Takes packet frame items added) is = ap (λ l. Taken frame ∷ l) (items_kept items added is.0 is.1)
turn_reduced c (Arrives packet added) is = none_kept added is.1.0
turn_reduced c (Ticks added) is = none_kept added is.1.0

-- ---- the group of a turn

abbrev pub AloneIn : Bool → List Record → Type 0
AloneIn carried items = All (λ item. begins_group carried item ≡ false) items

-- the group is one of the log, and so is its reduced one, in the log that isn't carried; and it accepts the same starts
pub record IsKeptGroup (c : Bool) (group : List Record) : Type 0 where
  pub first : Record
  pub after : List Record
  pub is : group ≡ first ∷ after
  pub begins : begins_group c first ≡ true
  pub alone : AloneIn c after
  pub reduced_first : Record
  pub reduced_after : List Record
  pub reduces : reduced group ≡ reduced_first ∷ reduced_after
  pub reduced_begins : begins_group false reduced_first ≡ true
  pub reduced_alone : AloneIn false reduced_after
  pub starts : starts_in c group ≡ starts_in false (reduced_first ∷ reduced_after)

-- the group is one of the log, and nothing of the reduced log; and it accepts no step
pub record IsLostGroup (c : Bool) (group : List Record) : Type 0 where
  pub first : Record
  pub after : List Record
  pub is : group ≡ first ∷ after
  pub begins : begins_group c first ≡ true
  pub alone : AloneIn c after
  pub reduces : reduced group ≡ []
  pub accepts_none : accepted_in c group ≡ []

taken_steps : (frame : ℕ) (items added : List Record) → All IsPlainRecord items → All IsAddedRecord added → All HasNoStep (Taken frame ∷ (items ++ added))
taken_steps frame items added plain left_out =
    All-cons HasNoStep (Taken frame) (items ++ added) refl (no_steps true (items ++ added) (both_within true items added plain left_out))

fewer_steps : (frame : ℕ) (items : List Record) → All IsPlainRecord items → All HasNoStep (Taken frame ∷ items)
fewer_steps frame items plain = All-cons HasNoStep (Taken frame) items refl (no_steps true items (plain_within true items plain))

pub turn_group : (c : Bool) (turn : Turn) → IsTurn c turn → IsKeptGroup c (group_of_turn c turn) ⊎ IsLostGroup c (group_of_turn c turn)
unfolding begins_group
turn_group c (Steps index step items added) is = inl (record {
  first = StepRecord index step;
  after = items ++ added;
  is = refl;
  begins = refl;
  alone = both_within c items added is.0 is.1.0;
  reduced_first = StepRecord index step;
  reduced_after = items;
  reduces = turn_reduced c (Steps index step items added) is;
  reduced_begins = refl;
  reduced_alone = plain_within false items is.0;
  starts = step_same c index step items added is;
})
turn_group true (Takes packet frame items added) is = inl (record {
  first = Arrived packet;
  after = Taken frame ∷ (items ++ added);
  is = refl;
  begins = refl;
  alone = All-cons (λ item. begins_group true item ≡ false) (Taken frame) (items ++ added) refl (both_within true items added is.0 is.1);
  reduced_first = Taken frame;
  reduced_after = items;
  reduces = turn_reduced true (Takes packet frame items added) is;
  reduced_begins = refl;
  reduced_alone = plain_within false items is.0;
  starts =
      ap (filter is_start)
      (none_accepted true (Arrived packet ∷ Taken frame ∷ (items ++ added))
      (All-cons HasNoStep (Arrived packet) (Taken frame ∷ (items ++ added)) refl (taken_steps frame items added is.0 is.1)))
      ∙ sym (ap (filter is_start) (none_accepted false (Taken frame ∷ items) (fewer_steps frame items is.0)));
})
turn_group false (Takes packet frame items added) is = inl (record {
  first = Taken frame;
  after = items ++ added;
  is = refl;
  begins = refl;
  alone = both_within false items added is.0 is.1;
  reduced_first = Taken frame;
  reduced_after = items;
  reduces = turn_reduced false (Takes packet frame items added) is;
  reduced_begins = refl;
  reduced_alone = plain_within false items is.0;
  starts =
      ap (filter is_start) (none_accepted false (Taken frame ∷ (items ++ added)) (taken_steps frame items added is.0 is.1))
      ∙ sym (ap (filter is_start) (none_accepted false (Taken frame ∷ items) (fewer_steps frame items is.0)));
})
turn_group true (Arrives packet added) is = inr (record {
  first = Arrived packet;
  after = added;
  is = refl;
  begins = refl;
  alone = added_within true added is.1.0;
  reduces = turn_reduced true (Arrives packet added) is;
  accepts_none = none_accepted true (Arrived packet ∷ added)
      (All-cons HasNoStep (Arrived packet) added refl (no_steps true added (added_within true added is.1.0)));
})
turn_group false (Arrives packet added) is = absurd (false≢true is.1.1)
turn_group true (Ticks added) is = inr (record {
  first = Ticked;
  after = added;
  is = refl;
  begins = refl;
  alone = added_within true added is.1.0;
  reduces = turn_reduced true (Ticks added) is;
  accepts_none = none_accepted true (Ticked ∷ added) (All-cons HasNoStep Ticked added refl (no_steps true added (added_within true added is.1.0)));
})
turn_group false (Ticks added) is = absurd (false≢true is.1.1)
