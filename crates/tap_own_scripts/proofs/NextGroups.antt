-- The group that comes next, carried or not, begins with one record; the others begin no step, and don't end the run.
use Rattle.std.proofs.Common.{◌≡◌, ◌⊎◌, inl, inr, ◌+◌, ◌≤◌, ℕ, Bool, true, false, List, [], ◌∷◌, ◌++◌, length, get_or, All, None, Some, refl, ap, sym, subst, ◌∙◌, arith}
use Rattle.std.specs.Prelude.{slice_get}
use Rattle.std.proofs.lemmas.Bool.{false≢true}
use Rattle.std.proofs.lemmas.List.Elements.{All-append, All-cons, All-nil}
use Rattle.tap_name.specs.Settings.{SettingsValue}
use Rattle.tap_scenario.specs.Scenario.{IsScript, ScenarioValue}
use Rattle.tap_scenario.specs.declared.step.Step.{Step}
use Rattle.tap_scenario.specs.declared.step.Step.TheVariants.{RootSet}
use Rattle.tap_log.specs.declared.record.Record.{Record}
use Rattle.tap_log.specs.declared.record.Record.TheVariants.{Step as StepRecord, Taken, Finished, Arrived, Ticked}
use Rattle.tap_log.specs.Counts.{sent_count}
use Rattle.tap_log.specs.Kinds.{begins_group, step_of}
use Rattle.tap_log.specs.Log.{begun_steps}
use Rattle.tap_log.specs.Reduced.{is_added, reduced}
use Rattle.tap_history.specs.Groups.{ends_log}
use Rattle.tap_history.specs.Refusals.{first_refusal}
use Rattle.tap_runs.specs.Beginning.{Beginning}
use Rattle.tap_runs.specs.Course.{MayFollow, system_of}
use Rattle.tap_runs.specs.Groups.{step_group, taken_group}
use Rattle.tap_runs.proofs.Frames.{none_of}
use Rattle.tap_runs.proofs.Within.{Within, step_within, taken_within}
use Rattle.tap_carried.specs.LogTurns.{IsAddedRecord, Turn, group_of_turn}
use Rattle.tap_carried.specs.LogTurns.Turn.{Arrives, Steps, Takes, Ticks}
use Rattle.tap_carried.specs.ReducedRuns.{TurnFollows}
use Rattle.tap_lawful.specs.CarriedRuns.{CarriedComesNext, IsCarriedPlayed, IsCarriedScript}
use Rattle.tap_lawful.specs.Lawful.{ComesNext, UncarriedComesNext}
use Rattle.tap_lawful.specs.Next.{begun_count, next_step}
use Rattle.tap_lawful.specs.RootSets.{roots_told, told_after, with_roots}
use Rattle.tap_lawful.specs.Runs.{IsPlayedBy, IsRunSoFar, comes_next, next_records}
use Rattle.tap_lawful.proofs.CarriedComing.{begun_head, carried_coming}
use Rattle.tap_lawful.proofs.CarriedReduction.{carried_run, script_steps}
use Rattle.tap_lawful.proofs.CarriedTurns.{turn_of_group}
use Rattle.tap_lawful.proofs.Coming.{comes_may, coming}
use Rattle.tap_lawful.proofs.Uncarried.{uncarried_coming}
use Rattle.tap_lawful.proofs.UncarriedLogs.{same_steps}
use Rattle.tap_own_scripts.specs.Own.{goes_on}

-- ---- records within a group

abbrev pub GoesOn : Record → Type 0
GoesOn item = goes_on item ≡ true

-- the record begins no step, and doesn't say that all were run
pub record IsInside (item : Record) : Type 0 where
  pub goes : GoesOn item
  pub none : step_of item ≡ None

within_inside : (item : Record) → Within item → IsInside item
unfolding goes_on begins_group ends_log
within_inside (StepRecord index step) within = absurd (false≢true (sym within.0))
within_inside (Finished steps) within = absurd (false≢true (sym within.1))
within_inside item within = record { goes = refl; none = refl }

added_inside : (item : Record) → is_added item ≡ true → IsInside item
unfolding goes_on is_added
added_inside (StepRecord index step) added = absurd (false≢true added)
added_inside (Finished steps) added = absurd (false≢true added)
added_inside item added = record { goes = refl; none = refl }

all_within : (items : List Record) → All Within items → All IsInside items
all_within items all = λ k d there. within_inside (get_or items k d) (all k d there)

all_added : (items : List Record) → All IsAddedRecord items → All IsInside items
all_added items all = λ k d there. added_inside (get_or items k d) (all k d there).left_out

-- they begin no step
pub inside_steps : (items : List Record) → All IsInside items → begun_steps items ≡ []
inside_steps items all = none_of step_of items (λ k d there. (all k d there).none)

-- ---- a group

-- The records are one group: this is the first one, and the others stand within it.
pub record Opens (group : List Record) : Type 0 where
  pub first : Record
  pub after : List Record
  pub is : group ≡ first ∷ after
  pub goes : GoesOn first
  pub inside : All IsInside after

opens_so : (group : List Record) (o : Opens group) (first : Record) (after : List Record) → first ∷ after ≡ group → first ≡ o.first
opens_so group o first after is = let both : first ∷ after ≡ o.first ∷ o.after = is ∙ o.is in cc

-- the scenario's next step is begun
pub record BeginsStep (s : ScenarioValue) (log : List Record) (first : Record) : Type 0 where
  pub step : Step
  pub is : begun_steps (first ∷ []) ≡ step ∷ []
  pub next : next_step s log ≡ Some step

-- the group is one, and begins no step or the next one
pub record HasShape (s : ScenarioValue) (log group : List Record) : Type 0 where
  pub opens : Opens group
  pub begins : (begun_steps (opens.first ∷ []) ≡ []) ⊎ BeginsStep s log opens.first

-- by its first record
none_first : (s : ScenarioValue) (log group : List Record) (o : Opens group) (first : Record) (after : List Record) → first ∷ after ≡ group
    → begun_steps (first ∷ []) ≡ [] → HasShape s log group
none_first s log group o first after is none =
    record { opens = o; begins = inl (ap (λ item. begun_steps (item ∷ [])) (sym (opens_so group o first after is)) ∙ none) }

step_first : (s : ScenarioValue) (log group : List Record) (o : Opens group) (index : ℕ) (step : Step) (after : List Record)
    → StepRecord index step ∷ after ≡ group → next_step s log ≡ Some step → HasShape s log group
step_first s log group o index step after is next = record {
  opens = o;
  begins = inr (record {
    step = step;
    is = ap (λ item. begun_steps (item ∷ [])) (sym (opens_so group o (StepRecord index step) after is));
    next = next;
  });
}

-- ---- in a carried run

turn_opens : (b : Beginning) (log : List Record) (turn : Turn) → TurnFollows true b log turn → Opens (group_of_turn true turn)
unfolding goes_on MayFollow
turn_opens b log (Steps index step items added) follows = record {
  first = StepRecord index step;
  after = items ++ added;
  is = refl;
  goes = refl;
  inside = All-append IsInside items added
      (all_within items (step_within b.settings (reduced log) (system_of (reduced log)) index step items follows.0.0.may))
      (all_added added follows.1.0);
}
turn_opens b log (Takes packet frame items added) follows = record {
  first = Arrived packet;
  after = Taken frame ∷ (items ++ added);
  is = refl;
  goes = refl;
  inside = All-cons IsInside (Taken frame) (items ++ added) (record { goes = refl; none = refl })
      (All-append IsInside items added
      (all_within items (taken_within b.settings (reduced log) (system_of (reduced log)) frame items follows.0.may))
      (all_added added follows.1));
}
turn_opens b log (Arrives packet added) follows =
    record { first = Arrived packet; after = added; is = refl; goes = refl; inside = all_added added follows.1.0 }
turn_opens b log (Ticks added) follows =
    record { first = Ticked; after = added; is = refl; goes = refl; inside = all_added added follows.1.0 }

-- however many frames it sends
carried_opens : (s : ScenarioValue) (log group : List Record) → IsCarriedScript s → IsCarriedPlayed s log → CarriedComesNext s log group
    → Opens group
carried_opens s log group script played comes =
    let run = carried_run s script log played in
    let most = sent_count (log ++ group) in
    let next = turn_of_group s log run most group (script_steps s script) comes (let e : most ≤ most = omega arith in e) in
    subst Opens next.is (turn_opens (record { settings = s.settings; frames = most; members = s.members }) log next.turn next.follows)

carried_shape : (s : ScenarioValue) (log group : List Record) → IsCarriedScript s → IsCarriedPlayed s log → CarriedComesNext s log group
    → HasShape s log group
carried_shape s log group script played comes =
    let o = carried_opens s log group script played comes in
    elim (carried_coming s log group comes) [
      | inl arrives ↦ none_first s log group o (Arrived arrives.line.number) _ arrives.is refl
      | inr (inl ticks) ↦ none_first s log group o Ticked _ ticks.is refl
      | inr (inr begun) ↦
          let index = begun_count log + 1 in
          let head = begun_head s.settings log index begun.step (first_refusal log begun.step) in
          step_first s log group o index begun.step head.0 (head.1 ∙ begun.is) begun.next
    ]

-- ---- in one that isn't carried

step_opens : (p : SettingsValue) (log : List Record) (index : ℕ) (step : Step) → MayFollow p log (system_of log) (step_group p log index step)
    → Opens (step_group p log index step)
unfolding goes_on MayFollow
step_opens p log index step may = record {
  first = StepRecord index step;
  after = _;
  is = refl;
  goes = refl;
  inside = all_within _ (step_within p log (system_of log) index step _ may);
}

taken_opens : (p : SettingsValue) (log : List Record) (number : ℕ) → MayFollow p log (system_of log) (taken_group p log number)
    → Opens (taken_group p log number)
unfolding goes_on MayFollow
taken_opens p log number may = record {
  first = Taken number;
  after = _;
  is = refl;
  goes = refl;
  inside = all_within _ (taken_within p log (system_of log) number _ may);
}

plain_opens : (s : ScenarioValue) (log group : List Record) → ComesNext s log group → Opens group
plain_opens s log group comes =
    let p = s.settings in
    let may = comes_may s log group comes in
    elim (coming s log group comes) [
      | inl taken ↦ subst Opens taken.is (taken_opens p log taken.number (subst (MayFollow p log (system_of log)) (sym taken.is) may))
      | inr begun ↦
          subst Opens begun.is
          (step_opens p log (begun_count log + 1) begun.step (subst (MayFollow p log (system_of log)) (sym begun.is) may))
    ]

roots_inside : (p : SettingsValue) (log : List Record) (step : Step) → All IsInside (roots_told p log step)
unfolding roots_told goes_on
roots_inside p log (RootSet object asker) = All-cons IsInside _ [] (record { goes = refl; none = refl }) (All-nil IsInside)
roots_inside p log step = All-nil IsInside

told_inside : (p : SettingsValue) (log group : List Record) → All IsInside (told_after p log group)
unfolding told_after
told_inside p log (StepRecord index step ∷ []) = roots_inside p log step
told_inside p log group = All-nil IsInside

rooted_opens : (p : SettingsValue) (log plain : List Record) → Opens plain → Opens (with_roots p log plain)
rooted_opens p log plain o =
    let told = told_after p log plain in
    record {
      first = o.first;
      after = o.after ++ told;
      is = ap (λ l. l ++ told) o.is;
      goes = o.goes;
      inside = All-append IsInside o.after told o.inside (told_inside p log plain);
    }

uncarried_shape : (s : ScenarioValue) (log group : List Record) → UncarriedComesNext s log group → HasShape s log group
uncarried_shape s log group comes =
    let p = s.settings in
    let less = reduced log in
    let next = uncarried_coming s log group comes in
    let o : Opens group = subst Opens next.is (rooted_opens p log next.plain (plain_opens s less next.plain next.comes)) in
    elim (coming s less next.plain next.comes) [
      | inl taken ↦ none_first s log group o (Taken taken.number) _ (ap (with_roots p log) taken.is ∙ next.is) refl
      | inr begun ↦
          step_first s log group o (begun_count less + 1) begun.step _ (ap (with_roots p log) begun.is ∙ next.is)
          (ap (λ n. slice_get s.steps n) (ap length (sym (same_steps log))) ∙ begun.next)
    ]

-- ---- by the carrier

shape_by : (c : Bool) (s : ScenarioValue) (log group : List Record) → s.carrier ≡ c → IsScript s → IsPlayedBy c s log
    → comes_next c s log ≡ Some group → HasShape s log group
shape_by true s log group is valid played comes = carried_shape s log group (record { valid = valid; carried = is }) played comes
shape_by false s log group is valid played comes = uncarried_shape s log group comes

pub shape : (s : ScenarioValue) (log group : List Record) → IsScript s → IsRunSoFar s log → next_records s log ≡ Some group
    → HasShape s log group
shape s log group valid played comes = shape_by s.carrier s log group refl valid played comes
