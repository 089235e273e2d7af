-- The group that comes next in a run that isn't carried is a turn that may follow, and in the reduced log it comes next without its roots.
-- Cited above: ComesReduced, far_more, far_starts, grown_is, same_sent, turn_next, uncarried_coming, uncarried_far, UncarriedSoFar
use Rattle.std.proofs.Common.{◌≡◌, inl, inr, ℕ, ◌+◌, ◌*◌, ◌≤◌, Bool, false, List, [], ◌∷◌, ◌++◌, length, Option, None, Some, refl, ap, sym, subst, ◌∙◌, arith, length-append}
use Rattle.std.proofs.lemmas.List.Elements.{All-nil}
use Rattle.tap_name.specs.Settings.{SettingsValue}
use Rattle.tap_scenario.specs.Scenario.{IsScript, ScenarioValue}
use Rattle.tap_scenario.specs.Step.{IsStep}
use Rattle.tap_scenario.specs.declared.step.Step.{Step}
use Rattle.tap_scenario.specs.declared.step.Step.TheVariants.{RootSet}
use Rattle.tap_scenario.proofs.Options.{option_map-back}
use Rattle.tap_log.specs.declared.record.Record.{Record}
use Rattle.tap_log.specs.declared.record.Record.TheVariants.{Step as StepRecord, Taken}
use Rattle.tap_log.specs.declared.record.Refusal.{Refusal}
use Rattle.tap_log.specs.Counts.{sent_count}
use Rattle.tap_log.specs.Kinds.{sent_number}
use Rattle.tap_log.specs.Log.{begun_steps}
use Rattle.tap_log.specs.Reduced.{is_added, reduced}
use Rattle.tap_history.specs.Refusals.{first_refusal}
use Rattle.tap_runs.specs.Beginning.{Beginning, begin_record}
use Rattle.tap_runs.specs.Course.{Follows, system_of}
use Rattle.tap_runs.specs.Group.{records_unless, step_records}
use Rattle.tap_runs.specs.Named.{HasNames}
use Rattle.tap_runs.proofs.StepNames.{step_of_scenario_has_names}
use Rattle.tap_carried.specs.LogTurns.{IsAddedRecord, reduced_group}
use Rattle.tap_carried.specs.LogTurns.Turn.{Steps, Takes}
use Rattle.tap_carried.specs.ReducedLogs.{AgreesWithReduced, starts_or_observes}
use Rattle.tap_carried.specs.ReducedRuns.{IsRunOfTurns}
use Rattle.tap_carried.proofs.BeginningKept.{log_kept}
use Rattle.tap_carried.proofs.CarrierTurns.{carrier_turns_follow}
use Rattle.tap_carried.proofs.ReducedLogs.{logs_agree}
use Rattle.tap_carried.proofs.ReducedRuns.{runs_reduce}
use Rattle.tap_carried.proofs.SameTold.{kept_sent, reduced_tells}
use Rattle.tap_carried.proofs.TurnGroups.{reduced-append, turn_reduced}
use Rattle.tap_lawful.specs.Lawful.{ComesNext, IsPlayed, IsUncarriedPlayed, UncarriedComesNext}
use Rattle.tap_lawful.specs.Next.{beginning_in, begun_count, next_group, uncarried_next_group}
use Rattle.tap_lawful.specs.RootSets.{roots_told, told_after, with_roots}
use Rattle.tap_lawful.proofs.CarriedReduction.{run_push}
use Rattle.tap_lawful.proofs.CarriedTurns.{IsTurnGroup, TellsNoRoots, next_is_step, root_set_salted}
use Rattle.tap_lawful.proofs.CarriedWhole.{is_turn}
use Rattle.tap_lawful.proofs.Coming.{comes_follows, coming}
use Rattle.tap_lawful.proofs.Played.{by_next, played_more, played_starts, script_within, sent_count-append}

-- ---- what is told

roots_send : (p : SettingsValue) (log : List Record) (step : Step) → sent_count (roots_told p log step) ≡ 0
unfolding roots_told sent_number
roots_send p log (RootSet object asker) = refl
roots_send p log step = refl

-- roots send no frame
pub told_sends : (p : SettingsValue) (log group : List Record) → sent_count (told_after p log group) ≡ 0
unfolding told_after
told_sends p log (StepRecord index step ∷ []) = roots_send p log step
told_sends p log group = refl

roots_begin : (p : SettingsValue) (log : List Record) (step : Step) → begun_steps (roots_told p log step) ≡ []
unfolding roots_told
roots_begin p log (RootSet object asker) = refl
roots_begin p log step = refl

-- and begin no step
pub told_begins : (p : SettingsValue) (log group : List Record) → begun_steps (told_after p log group) ≡ []
unfolding told_after
told_begins p log (StepRecord index step ∷ []) = roots_begin p log step
told_begins p log group = refl

roots_few : (p : SettingsValue) (log : List Record) (step : Step) → length (roots_told p log step) ≤ 1
unfolding roots_told
roots_few p log (RootSet object asker) = omega arith
roots_few p log step = omega arith

-- there is one such record at most
told_few : (p : SettingsValue) (log group : List Record) → length (told_after p log group) ≤ 1
unfolding told_after
told_few p log (StepRecord index step ∷ []) = roots_few p log step
told_few p log group = omega arith

told_taken : (p : SettingsValue) (log : List Record) (number : ℕ) (items : List Record) → told_after p log (Taken number ∷ items) ≡ []
unfolding told_after
told_taken p log number items = refl

-- ---- what comes next

-- this comes next in the reduced log, and with its roots it is the group
pub record ComesReduced (s : ScenarioValue) (log group : List Record) : Type 0 where
  pub plain : List Record
  pub comes : ComesNext s (reduced log) plain
  pub is : with_roots s.settings log plain ≡ group

pub uncarried_coming : (s : ScenarioValue) (log group : List Record) → UncarriedComesNext s log group → ComesReduced s log group
uncarried_coming s log group comes =
    let back = option_map-back (with_roots s.settings log) (next_group s (reduced log)) group comes in
    record { plain = back.0; comes = back.1; is = back.2 }

-- ---- turns

-- the group is that of a turn which may follow, of which the reduced log has this
record IsRootedTurn (b : Beginning) (log plain group : List Record) : Type 0 where
  next : IsTurnGroup false b log group
  reduces : reduced_group next.turn ≡ plain

module _ (b : Beginning) (log : List Record) where
  taken_turn : (number : ℕ) (items group : List Record) → Follows b (reduced log) (Taken number ∷ items)
      → with_roots b.settings log (Taken number ∷ items) ≡ group → IsRootedTurn b log (Taken number ∷ items) group
  taken_turn number items group follows is = record {
    next = record {
      turn = Takes 0 number items [];
      is = ap (λ l. Taken number ∷ (items ++ l)) (sym (told_taken b.settings log number items)) ∙ is;
      follows = (follows, All-nil IsAddedRecord);
      few = omega arith;
      tells = inl (All-nil TellsNoRoots);
    };
    reduces = refl;
  }

  nothing_told : (index : ℕ) (step : Step) (items group : List Record) → Follows b (reduced log) (StepRecord index step ∷ items)
      → HasNames b.settings step → StepRecord index step ∷ (items ++ []) ≡ group → IsRootedTurn b log (StepRecord index step ∷ items) group
  nothing_told index step items group follows names is = record {
    next = record {
      turn = Steps index step items [];
      is = is;
      follows = ((follows, names), (All-nil IsAddedRecord, λ starts none. refl));
      few = omega arith;
      tells = inl (All-nil TellsNoRoots);
    };
    reduces = refl;
  }

  -- a root set that stands alone isn't refused
  roots_accepted : AgreesWithReduced log → (index : ℕ) (object asker : List ℕ)
      → [] ≡ step_records b.settings (reduced log) (system_of (reduced log)) index (RootSet object asker)
      → first_refusal log (RootSet object asker) ≡ None
  unfolding starts_or_observes
  roots_accepted agrees index object asker done =
      sym (agrees.refusals (RootSet object asker) refl)
      ∙ none_unless (first_refusal (reduced log) (RootSet object asker)) done
    where
      none_unless : (refusal : Option Refusal)
          → [] ≡ records_unless b.settings (reduced log) (system_of (reduced log)) index (RootSet object asker) refusal → refusal ≡ None
      none_unless None is = refl
      none_unless (Some refusal) is = absurd (cc)

  step_turn : (carrier : Bool) (index : ℕ) (step : Step) (items group : List Record) → Follows b (reduced log) (StepRecord index step ∷ items)
      → IsStep b.settings carrier step → AgreesWithReduced log → items ≡ step_records b.settings (reduced log) (system_of (reduced log)) index step
      → with_roots b.settings log (StepRecord index step ∷ items) ≡ group → IsRootedTurn b log (StepRecord index step ∷ items) group
  unfolding told_after roots_told
  step_turn carrier index (RootSet object asker) [] group follows valid agrees done is = record {
    next = record {
      turn = Steps index (RootSet object asker) [] _;
      is = is;
      follows = carrier_turns_follow.roots false b log index object asker _ follows;
      few = omega arith;
      tells = inr (record {
        index = index;
        object = object;
        asker = asker;
        is = refl;
        accepted = roots_accepted agrees index object asker done;
        salted = root_set_salted b.settings carrier object asker valid;
      });
    };
    reduces = refl;
  }
  step_turn carrier index step [] group follows valid agrees done is =
      nothing_told index step [] group follows (step_of_scenario_has_names b.settings carrier step valid) is
  step_turn carrier index step (item ∷ items) group follows valid agrees done is =
      nothing_told index step (item ∷ items) group follows (step_of_scenario_has_names b.settings carrier step valid) is

module _ (s : ScenarioValue) (valid : IsScript s) where
  abbrev b : Beginning
  b = beginning_in s

  -- what comes next in the reduced log sends as much
  pub same_sent : (log group : List Record) (next : ComesReduced s log group) → sent_count (reduced log ++ next.plain) ≡ sent_count (log ++ group)
  same_sent log group next =
      let plain = next.plain in
      let told = told_after s.settings log plain in
      let here = sent_count-append (reduced log) plain in
      let same = ap length (reduced_tells sent_number kept_sent log) in
      let whole = sent_count-append log (plain ++ told) in
      let both = sent_count-append plain told in
      let none = told_sends s.settings log plain in
      let e : sent_count (reduced log ++ plain) ≡ sent_count (log ++ (plain ++ told)) = omega (arith, here, same, whole, both, none) in
      e ∙ ap (λ g. sent_count (log ++ g)) next.is

  turn_of : (log group : List Record) → IsRunOfTurns false b log → (next : ComesReduced s log group) → sent_count (log ++ group) ≤ s.frames
      → IsRootedTurn b log next.plain group
  turn_of log group run next within =
      let p = s.settings in
      let less = reduced log in
      let follows = comes_follows s less next.plain next.comes (subst (λ n. n ≤ s.frames) (sym (same_sent log group next)) within) in
      elim (coming s less next.plain next.comes) [
        | inl taken ↦
            subst (λ g. IsRootedTurn b log g group) taken.is
            (taken_turn b log taken.number _ group (subst (Follows b less) (sym taken.is) follows)
            (ap (with_roots p log) taken.is ∙ next.is))
        | inr begun ↦
            let valid_step = next_is_step (IsStep p s.carrier) s.steps (begun_count less) begun.step valid.steps begun.next in
            subst (λ g. IsRootedTurn b log g group) begun.is
            (step_turn b log s.carrier (begun_count less + 1) begun.step _ group (subst (Follows b less) (sym begun.is) follows)
            valid_step (logs_agree.agree false log (runs_reduce.turns false b log run)) refl (ap (with_roots p log) begun.is ∙ next.is))
      ]

  -- ---- each log of a run

  -- it is a run of turns, its reduced log is that of a run without roots, and has at least half of its records
  pub record UncarriedSoFar (log : List Record) : Type 0 where
    pub run : IsRunOfTurns false b log
    pub plain : IsPlayed s (reduced log)
    pub few : length log ≤ 2 * length (reduced log)

  -- the reduced log grows by what comes next there
  pub grown_is : (log group : List Record) → IsRunOfTurns false b log → (next : ComesReduced s log group) → sent_count (log ++ group) ≤ s.frames
      → reduced (log ++ group) ≡ reduced log ++ next.plain
  grown_is log group run next within =
      let turn = turn_of log group run next within in
      let is = is_turn false b log turn.next.turn (log_kept false log (runs_reduce.turns false b log run)) turn.next.follows in
      reduced-append log group ∙ ap (λ g. reduced log ++ reduced g) (sym turn.next.is)
      ∙ ap (λ l. reduced log ++ l) (turn_reduced false turn.next.turn is ∙ turn.reduces)

  pub turn_next : (log group : List Record) → IsRunOfTurns false b log → UncarriedComesNext s log group → sent_count (log ++ group) ≤ s.frames → IsTurnGroup false b log group
  turn_next log group run comes within = (turn_of log group run (uncarried_coming s log group comes) within).next

  -- what comes next has a record
  some_plain : (log plain : List Record) → ComesNext s log plain → 1 ≤ length plain
  some_plain log plain comes =
      elim (coming s log plain comes) [
        | inl taken ↦ subst (λ g. 1 ≤ length g) taken.is (omega arith)
        | inr begun ↦ subst (λ g. 1 ≤ length g) begun.is (omega arith)
      ]

  few_more : (log group : List Record) → length log ≤ 2 * length (reduced log) → (next : ComesReduced s log group)
      → reduced (log ++ group) ≡ reduced log ++ next.plain → length (log ++ group) ≤ 2 * length (reduced (log ++ group))
  few_more log group few next grown =
      let plain = next.plain in
      let told = told_after s.settings log plain in
      let some = some_plain (reduced log) plain next.comes in
      let one = told_few s.settings log plain in
      let size = length-append log group in
      let parts : length group ≡ length plain + length told = ap length (sym next.is) ∙ length-append plain told in
      let less : length (reduced (log ++ group)) ≡ length (reduced log) + length plain = ap length grown ∙ length-append (reduced log) plain in
      omega (arith, few, some, one, size, parts, less)

  pub far_more : (log group : List Record) → UncarriedSoFar log → UncarriedComesNext s log group → sent_count (log ++ group) ≤ s.frames
      → UncarriedSoFar (log ++ group)
  far_more log group far comes within =
      let next = uncarried_coming s log group comes in
      record {
        run = run_push false b log group far.run (turn_next log group far.run comes within);
        plain = subst (IsPlayed s) (sym (grown_is log group far.run next within))
            (played_more s (reduced log) next.plain far.plain next.comes
            (subst (λ n. n ≤ s.frames) (sym (same_sent log group next)) within));
        few = few_more log group far.few next (grown_is log group far.run next within);
      }

  begin_few : length (begin_record b ∷ []) ≤ 2 * length (reduced (begin_record b ∷ []))
  unfolding is_added
  begin_few = omega arith

  begin_kept : reduced (begin_record b ∷ []) ≡ begin_record b ∷ []
  unfolding is_added
  begin_kept = refl

  pub far_starts : UncarriedSoFar (begin_record b ∷ [])
  far_starts = record {
    run = record { limits = script_within s valid; turns = []; follow = tt; is = refl };
    plain = subst (IsPlayed s) (sym begin_kept) (played_starts s);
    few = begin_few;
  }

  pub uncarried_far : (log : List Record) → IsUncarriedPlayed s log → UncarriedSoFar log
  uncarried_far log played =
      by_next (uncarried_next_group s) s.frames UncarriedSoFar far_more (begin_record b ∷ []) log far_starts played.begins played.each
      played.within played.going
