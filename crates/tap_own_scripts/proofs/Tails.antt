-- How a log ends within the group that comes next, or with it, or with what stands of it if too many frames would be sent.
use Rattle.std.proofs.Common.{◌≡◌, ◌⊎◌, inl, inr, ℕ, zero, suc, ◌<◌, ◌≤◌, Bool, true, false, List, [], ◌∷◌, ◌++◌, take, Some, refl, ap, sym, subst, ◌∙◌, arith, append-nil}
use Rattle.std.proofs.lemmas.List.Elements.{All-cons, All-nil, All-take}
use Rattle.tap_scenario.specs.Scenario.{IsScript, ScenarioValue}
use Rattle.tap_scenario.specs.declared.step.Step.{Step}
use Rattle.tap_log.specs.declared.record.Record.{Record}
use Rattle.tap_log.specs.declared.record.Record.TheVariants.{Step as StepRecord, Spent}
use Rattle.tap_log.specs.Counts.{sent_count}
use Rattle.tap_log.specs.Log.{begun_steps}
use Rattle.tap_lawful.specs.Lawful.{step_alone}
use Rattle.tap_lawful.specs.Next.{begun_count}
use Rattle.tap_lawful.specs.Runs.{IsRunLog, IsRunSoFar, IsStoppedBy, comes_next, next_records}
use Rattle.tap_lawful.proofs.Alike.{begun-append}
use Rattle.tap_lawful.proofs.BegunSteps.{take_next}
use Rattle.tap_lawful.proofs.Runs.{runs_by_carrier, spent_log, stopped_log, whole_log}
use Rattle.tap_own_scripts.specs.Own.{goes_on}
use Rattle.tap_own_scripts.proofs.Logs.{CutSo, SpentSo, cut_next, kept_of, so_far, spent_back}
use Rattle.tap_own_scripts.proofs.NextGroups.{IsInside, Opens, shape}
use Rattle.tap_own_scripts.proofs.Own.{Continues, IsTail, comes_again, continues_front, continues_played, opens_begins, same_frames, whole_tail}

-- ---- what stands of a group

spent_inside : (frames : ℕ) → IsInside (Spent frames)
unfolding goes_on
spent_inside frames = record { goes = refl; none = refl }

-- only a step stands of a group that isn't carried
alone_kind : (first : Record) (after : List Record)
    → (step_alone (first ∷ after) ≡ first ∷ []) ⊎ ((step_alone (first ∷ after) ≡ []) × (begun_steps (first ∷ []) ≡ []))
unfolding step_alone
alone_kind (StepRecord index step) after = inl refl
alone_kind first after = inr (refl, refl)

-- the first record stands, and then that too many frames would be sent
first_spent : (frames : ℕ) (group kept : List Record) (o : Opens group) → kept ≡ o.first ∷ [] → IsTail group (kept ++ Spent frames ∷ [])
first_spent frames group kept o is = record {
  head = o.first;
  rest = Spent frames ∷ [];
  is = ap (λ l. l ++ Spent frames ∷ []) is;
  goes = o.goes;
  begins = opens_begins group o;
  inside = All-cons IsInside (Spent frames) [] (spent_inside frames) (All-nil IsInside);
}

-- no record stands before that, if the group begins no step
only_spent : (frames : ℕ) (group kept : List Record) (o : Opens group) → kept ≡ [] → begun_steps (o.first ∷ []) ≡ []
    → IsTail group (kept ++ Spent frames ∷ [])
only_spent frames group kept o is none = record {
  head = Spent frames;
  rest = [];
  is = ap (λ l. l ++ Spent frames ∷ []) is;
  goes = (spent_inside frames).goes;
  begins = sym none ∙ opens_begins group o;
  inside = All-nil IsInside;
}

spent_tail : (c : Bool) (frames : ℕ) (group : List Record) → Opens group → IsTail group (kept_of c group ++ Spent frames ∷ [])
spent_tail true frames group o = first_spent frames group (take 1 group) o (ap (take 1) o.is)
spent_tail false frames group o =
    elim (alone_kind o.first o.after) [
      | inl alone ↦ first_spent frames group (step_alone group) o (ap step_alone o.is ∙ alone)
      | inr none ↦ only_spent frames group (step_alone group) o (ap step_alone o.is ∙ none.0) none.1
    ]

-- some first records
cut_tail : (kept : ℕ) (group : List Record) → 1 ≤ kept → Opens group → IsTail group (take kept group)
cut_tail zero group some o = absurd (omega (arith, some))
cut_tail (suc kept) group some o = record {
  head = o.first;
  rest = take kept o.after;
  is = ap (take (suc kept)) o.is;
  goes = o.goes;
  begins = opens_begins group o;
  inside = All-take IsInside kept o.after o.inside;
}

-- ---- logs of scenarios that begin so

module _ (s o : ScenarioValue) (played log : List Record) (is_played : IsRunSoFar s played) (more : List Step) where
  played_again : (group : List Record) → Continues s o (played ++ group) more → IsRunSoFar o played
  played_again group continues =
      continues_played s o played (begun_steps group ++ more) (continues_front s o (played ++ group) more continues played group refl) is_played

  spent_again : (spent : SpentSo s.carrier s played log) → Continues s o (played ++ spent.group) more → IsRunLog o log
  spent_again spent continues =
      let group = spent.group in
      let frames : o.frames ≡ s.frames = same_frames s o (played ++ group) more continues in
      let so : SpentSo o.carrier o played log = record {
        group = group;
        next = comes_again s o played group more continues spent.next;
        over = subst (λ n. n < sent_count (played ++ group)) (sym frames) spent.over;
        log_is = spent.log_is ∙ ap (λ c. played ++ (kept_of c group ++ Spent s.frames ∷ [])) (sym continues.carrier)
            ∙ ap (λ n. played ++ (kept_of o.carrier group ++ Spent n ∷ [])) (sym frames);
      } in
      whole_log o.carrier o log
      (spent_log o.carrier o played log (played_again group continues) (spent_back o.carrier o played log so))

  cut_again : (cut : CutSo s.carrier s played log) → Continues s o (played ++ cut.cut.group) more → IsRunLog o log
  cut_again so continues =
      let cut = so.cut in
      let group = cut.group in
      let frames : o.frames ≡ s.frames = same_frames s o (played ++ group) more continues in
      let carried : o.carrier ≡ true = continues.carrier ∙ so.carried in
      let next : next_records o played ≡ Some group =
      comes_again s o played group more continues (cut_next s.carrier s played log so) in
      let again : IsStoppedBy true o played log = inr (record {
        group = group;
        next = subst (λ c. comes_next c o played ≡ Some group) carried next;
        kept = cut.kept;
        some = cut.some;
        few = cut.few;
        first = λ over. cut.first (subst (λ n. n < sent_count (played ++ group)) frames over);
        log_is = cut.log_is;
      }) in
      stopped_log o.carrier o played log (played_again group continues) (subst (λ c. IsStoppedBy c o played log) (sym carried) again)

-- ---- a log that ends in a group

-- The log ends with what stands of the group that comes next after the records that were played. It is the log of each scenario in which the
-- group is begun, too.
pub record EndsInGroup (s : ScenarioValue) (played log : List Record) : Type 0 where
  pub group : List Record
  pub tail : List Record
  pub is_played : IsRunSoFar s played
  pub comes : next_records s played ≡ Some group
  pub is_tail : IsTail group tail
  pub log_is : log ≡ played ++ tail
  pub run : IsRunLog s log
  pub again : (o : ScenarioValue) (more : List Step) → Continues s o (played ++ group) more → IsRunLog o log

module _ (s : ScenarioValue) (valid : IsScript s) (played : List Record) (is_played : IsRunSoFar s played) where
  opens : (group : List Record) → next_records s played ≡ Some group → Opens group
  opens group comes = (shape s played group valid is_played comes).opens

  pub group_ends : (group : List Record) → next_records s played ≡ Some group → sent_count (played ++ group) ≤ s.frames
      → EndsInGroup s played (played ++ group)
  group_ends group comes within =
      let grown = runs_by_carrier.more s played group valid is_played comes within in
      record {
        group = group;
        tail = group;
        is_played = is_played;
        comes = comes;
        is_tail = whole_tail group (opens group comes);
        log_is = refl;
        run = so_far s (played ++ group) grown;
        again = λ o more continues. so_far o (played ++ group) (continues_played s o (played ++ group) more continues grown);
      }

  pub spent_ends : (log : List Record) → SpentSo s.carrier s played log → IsRunLog s log → EndsInGroup s played log
  spent_ends log spent run = record {
    group = spent.group;
    tail = kept_of s.carrier spent.group ++ Spent s.frames ∷ [];
    is_played = is_played;
    comes = spent.next;
    is_tail = spent_tail s.carrier s.frames spent.group (opens spent.group spent.next);
    log_is = spent.log_is;
    run = run;
    again = λ o more continues. spent_again s o played log is_played more spent continues;
  }

  pub cut_ends : (log : List Record) → CutSo s.carrier s played log → IsRunLog s log → EndsInGroup s played log
  cut_ends log so run =
      let cut = so.cut in
      let comes : next_records s played ≡ Some cut.group = cut_next s.carrier s played log so in
      record {
        group = cut.group;
        tail = take cut.kept cut.group;
        is_played = is_played;
        comes = comes;
        is_tail = cut_tail cut.kept cut.group cut.some (opens cut.group comes);
        log_is = cut.log_is;
        run = run;
        again = λ o more continues. cut_again s o played log is_played more so continues;
      }

  -- with the group the steps that were begun are first ones of the scenario
  pub taken_steps : (group : List Record) → next_records s played ≡ Some group
      → (count : ℕ) × (begun_steps (played ++ group) ≡ take count s.steps)
  taken_steps group comes =
      let h = shape s played group valid is_played comes in
      let n = begun_count played in
      let first : begun_steps (played ++ group) ≡ take n s.steps ++ begun_steps (h.opens.first ∷ []) =
      begun-append played group
      ∙ ap (λ l. l ++ begun_steps group) (runs_by_carrier.steps s played valid is_played)
      ∙ ap (λ l. take n s.steps ++ l) (sym (opens_begins group h.opens)) in
      elim h.begins [
        | inl none ↦ (n, first ∙ ap (λ l. take n s.steps ++ l) none ∙ append-nil (take n s.steps))
        | inr step ↦
            (suc n, first ∙ ap (λ l. take n s.steps ++ l) step.is ∙ sym (take_next n s.steps step.step step.next))
      ]
