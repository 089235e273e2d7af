-- Parts of lists of records, and which starts they accept.
-- Cited above: all_at, no_step_among, none_in_first, none_in_second, parted_where, start_accepted
use Rattle.std.proofs.Common.{◌≡◌, ◌⊎◌, inl, inr, ℕ, true, false, List, [], ◌∷◌, ◌++◌, filter, All, Option, None, Some, refl, ap, sym, subst, ◌∙◌}
use Rattle.std.specs.List.{cons_option}
use Rattle.std.proofs.lemmas.Bool.{cases_Bool}
use Rattle.std.proofs.lemmas.List.Elements.{All-head, All-tail}
use Rattle.tap_scenario.specs.declared.step.Step.{Step}
use Rattle.tap_log.specs.Kinds.{step_of}
use Rattle.tap_log.specs.declared.record.Record.{Record}
use Rattle.tap_log.specs.declared.record.Record.TheVariants.{Step as StepRecord}
use Rattle.tap_history.specs.Core.{accepted_in, accepted_step}
use Rattle.tap_history.specs.StepAsks.{is_start}
use Rattle.tap_runs.proofs.Nodes.{HasNoStep}
use Rattle.tap_runs.proofs.Within.{is_accepted}
use Rattle.tap_safe_runs.specs.Accepting.{AcceptNoStart}

-- ---- where a list that is parted twice is parted

-- the second part begins after the first list, or within it
pub record IsPartedAfter (xs ys before rest : List Record) : Type 0 where
  pub middle : List Record
  pub front : before ≡ xs ++ middle
  pub back : ys ≡ middle ++ rest

pub record IsPartedWithin (xs ys before rest : List Record) : Type 0 where
  pub first : Record
  pub middle : List Record
  pub front : xs ≡ before ++ first ∷ middle
  pub back : rest ≡ first ∷ (middle ++ ys)

pub parted_where : (xs ys before rest : List Record) → xs ++ ys ≡ before ++ rest
    → IsPartedAfter xs ys before rest ⊎ IsPartedWithin xs ys before rest
parted_where [] ys before rest is = inl (record { middle = before; front = refl; back = is })
parted_where (x ∷ xs) ys [] rest is = inr (record { first = x; middle = xs; front = refl; back = sym is })
parted_where (x ∷ xs) ys (b ∷ bs) rest is =
    let same : x ≡ b = cc in
    let more : xs ++ ys ≡ bs ++ rest = cc in
    elim (parted_where xs ys bs rest more) [
      | inl after ↦ inl (record {
        middle = after.middle;
        front = ap (λ l. b ∷ l) after.front ∙ ap (λ c. c ∷ (xs ++ after.middle)) (sym same);
        back = after.back;
      })
      | inr within ↦ inr (record {
        first = within.first;
        middle = within.middle;
        front = ap (λ l. x ∷ l) within.front ∙ ap (λ c. c ∷ (bs ++ within.first ∷ within.middle)) same;
        back = within.back;
      })
    ]

-- records that begin no step have none among them
pub no_step_among : (items before : List Record) (index : ℕ) (step : Step) (rest : List Record) → All HasNoStep items
    → items ≡ before ++ StepRecord index step ∷ rest → ⊥
no_step_among [] [] index step rest none is = cc
no_step_among [] (b ∷ bs) index step rest none is = cc
no_step_among (item ∷ items) [] index step rest none is =
    let here : item ≡ StepRecord index step = cc in
    let wrong : None ≡ Some step = sym (All-head HasNoStep item items none) ∙ ap step_of here in
    cc
no_step_among (item ∷ items) (b ∷ bs) index step rest none is =
    let more : items ≡ bs ++ StepRecord index step ∷ rest = cc in
    no_step_among items bs index step rest (All-tail HasNoStep item items none) more

-- what holds of each holds of one that stands among them
pub all_at : (P : Record → Type 0) (items before : List Record) (item : Record) (rest : List Record) → All P items
    → items ≡ before ++ item ∷ rest → P item
all_at P [] [] item rest all is = absurd (cc)
all_at P [] (b ∷ bs) item rest all is = absurd (cc)
all_at P (first ∷ items) [] item rest all is =
    let here : first ≡ item = cc in subst P here (All-head P first items all)
all_at P (first ∷ items) (b ∷ bs) item rest all is =
    let more : items ≡ bs ++ item ∷ rest = cc in all_at P items bs item rest (All-tail P first items all) more

-- ---- accepted starts

-- of steps none of which is a start the later ones are none
later_none : (one : Option Step) (steps : List Step) → filter is_start (cons_option one steps) ≡ [] → filter is_start steps ≡ []
later_none None steps none = none
later_none (Some step) steps none =
    elim (cases_Bool (is_start step)) [
      | inl is ↦ let wrong : step ∷ filter is_start steps ≡ [] = rw is at none in absurd (cc)
      | inr other ↦ rw other at none
    ]

first_none : (one : Option Step) (steps : List Step) → filter is_start (cons_option one steps) ≡ []
    → filter is_start (cons_option one []) ≡ []
first_none None steps none = refl
first_none (Some step) steps none =
    elim (cases_Bool (is_start step)) [
      | inl is ↦ let wrong : step ∷ filter is_start steps ≡ [] = rw is at none in absurd (cc)
      | inr other ↦ rw other refl
    ]

both_none : (one : Option Step) (steps : List Step) → filter is_start (cons_option one []) ≡ [] → filter is_start steps ≡ []
    → filter is_start (cons_option one steps) ≡ []
both_none None steps first later = later
both_none (Some step) steps first later =
    elim (cases_Bool (is_start step)) [
      | inl is ↦ let wrong : step ∷ [] ≡ [] = rw is at first in absurd (cc)
      | inr other ↦ rw other later
    ]

pub none_in_first : (xs ys : List Record) → AcceptNoStart (xs ++ ys) → AcceptNoStart xs
none_in_first [] ys none = refl
none_in_first (x ∷ []) ys none = refl
none_in_first (x ∷ y ∷ xs) ys none =
    let one = accepted_step false (x, y) in
    both_none one (accepted_in false (y ∷ xs)) (first_none one (accepted_in false (y ∷ (xs ++ ys))) none)
    (none_in_first (y ∷ xs) ys (later_none one (accepted_in false (y ∷ (xs ++ ys))) none))

pub none_in_second : (xs ys : List Record) → AcceptNoStart (xs ++ ys) → AcceptNoStart ys
none_in_second [] ys none = none
none_in_second (x ∷ []) [] none = refl
none_in_second (x ∷ []) (y ∷ ys) none = later_none (accepted_step false (x, y)) (accepted_in false (y ∷ ys)) none
none_in_second (x ∷ y ∷ xs) ys none =
    none_in_second (y ∷ xs) ys (later_none (accepted_step false (x, y)) (accepted_in false (y ∷ (xs ++ ys))) none)

-- a start that these records accept is one
pub start_accepted : (index : ℕ) (step : Step) (next : Record) (items : List Record) → is_start step ≡ true
    → is_accepted (next ∷ items) ≡ true → AcceptNoStart (StepRecord index step ∷ next ∷ items) → ⊥
unfolding accepted_step
start_accepted index step next items starts accepted none =
    let first : filter is_start (cons_option (accepted_step false (StepRecord index step, next)) []) ≡ [] =
    first_none (accepted_step false (StepRecord index step, next)) (accepted_in false (next ∷ items)) none in
    let wrong : step ∷ [] ≡ [] = rw (accepted, starts) at first in
    cc
