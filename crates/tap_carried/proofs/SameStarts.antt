-- A turn and what becomes of it in the reduced log accept the same starts.
-- Cited above: HasNoStep, starts_in
use Rattle.std.proofs.Common.{◌≡◌, inl, inr, ℕ, Bool, true, false, not, List, [], ◌∷◌, ◌++◌, filter, All, Option, None, Some, refl, ap, sym, ◌∙◌, cond}
use Rattle.std.specs.Prelude.{if◌then◌else◌}
use Rattle.std.specs.List.{filter_map, cons_option}
use Rattle.std.proofs.lemmas.Bool.{cases_Bool, false≢true}
use Rattle.std.proofs.lemmas.List.Elements.{All-append, All-head, All-tail, All-weaker}
use Rattle.tap_scenario.specs.declared.step.Step.{Step}
use Rattle.tap_scenario.specs.declared.step.Step.TheVariants.{Join, Depart}
use Rattle.tap_log.specs.declared.record.Record.{Record}
use Rattle.tap_log.specs.declared.record.Record.TheVariants.{Step as StepRecord, Taken, Refused, Spent}
use Rattle.tap_log.specs.Kinds.{accepts, begins_group, step_of}
use Rattle.tap_log.specs.Reduced.{is_added}
use Rattle.tap_history.specs.Core.{accepted_in, accepted_step}
use Rattle.tap_history.specs.StepAsks.{actor_of, depart_name, is_start, join_name}
use Rattle.tap_carried.specs.LogTurns.{IsAddedRecord, IsPlainRecord, IsTurn}
use Rattle.tap_carried.specs.LogTurns.Turn.{Steps}

-- ---- records within a group

-- the record begins no step
abbrev pub HasNoStep : Record → Type 0
HasNoStep item = step_of item ≡ None

no_step : (c : Bool) (item : Record) → begins_group c item ≡ false → HasNoStep item
unfolding begins_group
no_step c (StepRecord index step) is = absurd (false≢true (sym is))
no_step c item is = refl

-- what is left out begins no group of a log that isn't carried
added_alone : (item : Record) → is_added item ≡ true → begins_group false item ≡ false
unfolding is_added begins_group
added_alone (StepRecord index step) is = absurd (false≢true is)
added_alone (Taken number) is = absurd (false≢true is)
added_alone item is = refl

module _ (c : Bool) where
  plain_one : (item : Record) → IsPlainRecord item → begins_group c item ≡ false
  plain_one item is = by_carried c
    where
      by_carried : (b : Bool) → begins_group b item ≡ false
      by_carried true = is.carried
      by_carried false = is.uncarried

  added_one : (item : Record) → IsAddedRecord item → begins_group c item ≡ false
  added_one item is = by_carried c
    where
      by_carried : (b : Bool) → begins_group b item ≡ false
      by_carried true = is.carried
      by_carried false = added_alone item is.left_out

  pub plain_within : (items : List Record) → All IsPlainRecord items → All (λ item. begins_group c item ≡ false) items
  plain_within items all = All-weaker IsPlainRecord (λ item. begins_group c item ≡ false) plain_one items all

  pub added_within : (items : List Record) → All IsAddedRecord items → All (λ item. begins_group c item ≡ false) items
  added_within items all = All-weaker IsAddedRecord (λ item. begins_group c item ≡ false) added_one items all

  pub both_within : (items added : List Record) → All IsPlainRecord items → All IsAddedRecord added
      → All (λ item. begins_group c item ≡ false) (items ++ added)
  both_within items added plain left_out =
      All-append (λ item. begins_group c item ≡ false) items added (plain_within items plain) (added_within added left_out)

pub no_steps : (c : Bool) (items : List Record) → All (λ item. begins_group c item ≡ false) items → All HasNoStep items
no_steps c items all = All-weaker (λ item. begins_group c item ≡ false) HasNoStep (no_step c) items all

none_stepped : (carried : Bool) (item next : Record) → HasNoStep item → accepted_step carried (item, next) ≡ None
unfolding accepted_step
none_stepped carried item next none = by_test (accepts carried next)
  where
    by_test : (accepted : Bool) → (if accepted then step_of item else None) ≡ None
    by_test true = none
    by_test false = refl

pub none_accepted : (carried : Bool) (items : List Record) → All HasNoStep items → accepted_in carried items ≡ []
none_accepted carried [] all = refl
none_accepted carried (item ∷ []) all = refl
none_accepted carried (item ∷ next ∷ items) all =
    ap (λ one. cons_option one (accepted_in carried (next ∷ items)))
    (none_stepped carried item next (All-head HasNoStep item (next ∷ items) all))
    ∙ none_accepted carried (next ∷ items) (All-tail HasNoStep item (next ∷ items) all)

plain_accepts : (c : Bool) (item : Record) → IsPlainRecord item → accepts c item ≡ accepts false item
unfolding accepts
plain_accepts c (Refused index refusal) is = refl
plain_accepts c (Spent limit) is = refl
plain_accepts c item is = ap not (plain_one c item is ∙ sym is.uncarried)

-- ---- accepted starts

-- the starts that these records accept
abbrev pub starts_in : Bool → List Record → List Step
starts_in carried items = filter is_start (accepted_in carried items)

-- a name that only a start has
abbrev IsOfStarts : (Step → Option (List ℕ)) → Type 0
IsOfStarts h = (step : Step) → is_start step ≡ false → h step ≡ None

-- such names are those of the starts among the steps
of_starts : (h : Step → Option (List ℕ)) → IsOfStarts h → (steps : List Step) → filter_map h (filter is_start steps) ≡ filter_map h steps
of_starts h only [] = refl
of_starts h only (step ∷ steps) =
    let rest = filter is_start steps in
    elim (cases_Bool (is_start step)) [
      | inl starting ↦
          ap (λ b. filter_map h (cond {A = List Step} b (step ∷ rest) rest)) starting
          ∙ ap (cons_option (h step)) (of_starts h only steps)
      | inr other ↦
          ap (λ b. filter_map h (cond {A = List Step} b (step ∷ rest) rest)) other ∙ of_starts h only steps
          ∙ sym (ap (λ o. cons_option o (filter_map h steps)) (only step other))
    ]

joins_start : IsOfStarts join_name
unfolding actor_of join_name
joins_start (Join name via) is = absurd (false≢true (sym is))
joins_start step is = refl

departs_start : IsOfStarts depart_name
unfolding actor_of depart_name
departs_start (Depart name) is = absurd (false≢true (sym is))
departs_start step is = refl

-- the names that join, and those that depart, are those of starts
pub starts_join : (steps : List Step) → filter_map join_name (filter is_start steps) ≡ filter_map join_name steps
starts_join steps = of_starts join_name joins_start steps

pub starts_depart : (steps : List Step) → filter_map depart_name (filter is_start steps) ≡ filter_map depart_name steps
starts_depart steps = of_starts depart_name departs_start steps

-- of a step and the record after it
one_start : (carried : Bool) (index : ℕ) (step : Step) (next : Record) (items : List Record) → All HasNoStep (next ∷ items)
    → starts_in carried (StepRecord index step ∷ next ∷ items)
    ≡ filter is_start (cons_option (if accepts carried next then Some step else None) [])
unfolding accepted_step
one_start carried index step next items all =
    ap (λ l. filter is_start (cons_option (if accepts carried next then Some step else None) l)) (none_accepted carried (next ∷ items) all)

no_start : (carried : Bool) (index : ℕ) (step : Step) (items : List Record) → All HasNoStep items → is_start step ≡ false
    → starts_in carried (StepRecord index step ∷ items) ≡ []
no_start carried index step [] all other = refl
no_start carried index step (next ∷ items) all other =
    one_start carried index step next items all ∙ by_test (accepts carried next)
  where
    by_test : (accepted : Bool) → filter is_start (cons_option (if accepted then Some step else None) []) ≡ []
    by_test true = ap (λ b. cond {A = List Step} b (step ∷ []) []) other
    by_test false = refl

module _ (c : Bool) where
  start_same : (index : ℕ) (step : Step) (items added : List Record) → All IsPlainRecord items → All IsAddedRecord added → (items ≡ [] → added ≡ [])
      → starts_in c (StepRecord index step ∷ (items ++ added)) ≡ starts_in false (StepRecord index step ∷ items)
  start_same index step [] added plain left_out none = ap (λ l. starts_in c (StepRecord index step ∷ l)) (none refl)
  start_same index step (next ∷ items) added plain left_out none =
      let is = All-head IsPlainRecord next items plain in
      let all = no_steps c (next ∷ (items ++ added)) (both_within c (next ∷ items) added plain left_out) in
      let fewer = no_steps c (next ∷ items) (plain_within c (next ∷ items) plain) in
      one_start c index step next (items ++ added) all
      ∙ ap (λ b. filter is_start (cons_option (if b then Some step else None) [])) (plain_accepts c next is)
      ∙ sym (one_start false index step next items fewer)

  -- the group of a step accepts the same starts with what is added and without it
  pub step_same : (index : ℕ) (step : Step) (items added : List Record) → IsTurn c (Steps index step items added)
      → starts_in c (StepRecord index step ∷ (items ++ added)) ≡ starts_in false (StepRecord index step ∷ items)
  step_same index step items added is = elim (cases_Bool (is_start step)) [
    | inl starting ↦ start_same index step items added is.0 is.1.0 (is.1.1 starting)
    | inr other ↦
        no_start c index step (items ++ added) (no_steps c (items ++ added) (both_within c items added is.0 is.1.0)) other
        ∙ sym (no_start false index step items (no_steps c items (plain_within c items is.0)) other)
  ]
