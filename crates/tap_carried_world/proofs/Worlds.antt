-- A world of a carried run: its log of plain records is the reduced one, and it may go on.
use Rattle.std.proofs.Common.{◌≡◌, ◌≢◌, inl, ℕ, ◌+◌, ◌<◌, ◌≤◌, Bool, true, false, List, [], ◌∷◌, ◌++◌, Option, None, Some, Result, Ok, Err, refl, ap, sym, subst, ◌∙◌, arith}
use Rattle.std.specs.Prelude.{if◌then◌else◌, nat_le, slice_get}
use Rattle.std.specs.List.{filter_map}
use Rattle.std.proofs.lemmas.Bool.{false≢true, leb-false, leb-true}
use Rattle.std.proofs.lemmas.Option.{slice_get_within}
use Rattle.tap_name.specs.Settings.{SettingsValue}
use Rattle.tap_scenario.specs.Scenario.{ScenarioValue}
use Rattle.tap_scenario.specs.Step.{IsStep}
use Rattle.tap_scenario.specs.declared.step.Step.{Step}
use Rattle.tap_scenario.specs.declared.step.Step.TheVariants.{Walk, Root, Table, Pointers, Garble, Cut, Deliver, Settle, SettleNewest, SettleMixed, Tick, Lose, Repeat, RootSet}
use Rattle.tap_log.specs.declared.record.Record.{Record}
use Rattle.tap_log.specs.declared.record.Record.TheVariants.{Step as StepRecord}
use Rattle.tap_log.specs.Counts.{sent_count}
use Rattle.tap_log.specs.declared.record.Refusal.{Refusal}
use Rattle.tap_log.specs.Log.{last_of}
use Rattle.tap_log.specs.Reduced.{reduced}
use Rattle.tap_log.proofs.MoreRecords.{last_of-push, sent_count-append}
use Rattle.tap_history.specs.Groups.{is_ended}
use Rattle.tap_history.specs.Moments.{outstanding}
use Rattle.tap_history.specs.Refusals.{first_refusal}
use Rattle.tap_history.specs.StepAsks.{actor_of, is_start}
use Rattle.tap_history.proofs.Parts.{is_ended-append}
use Rattle.tap_runs.specs.Course.{is_choice}
use Rattle.tap_runs.specs.Groups.{step_group, taken_group}
use Rattle.tap_ledger.specs.Woven.{RemarksWithin}
use Rattle.tap_carried.specs.ReducedLogs.{starts_or_observes}
use Rattle.tap_engine.specs.Kinds.{last_index, observes}
use Rattle.tap_engine.specs.Outcome.{IsNextIndex, MayGoOn, MayNote, WorldAnswersAs, adds, deliver_outcome, is_within, spends, step_outcome, takes_number, unless_refused, world_stays}
use Rattle.tap_engine.specs.World.{WorldValue, whole_log}
use Rattle.tap_engine.specs.declared.stop.Stop.{Stop}
use Rattle.tap_engine.specs.declared.stop.Stop.TheVariants.{Ended, NoMemory, Refused}
use Rattle.tap_engine.proofs.WholeLogs.{StepIsAdded, StepIsRefused, TakeIsAdded, step_refused}
use Rattle.tap_lawful.specs.CarriedRuns.{IsCarriedScript}
use Rattle.tap_lawful.specs.Next.{begun_count, next_step}
use Rattle.tap_lawful.specs.PlayedLaws.{index_of}
use Rattle.tap_carried_world.specs.Value.{CarriesOn}
use Rattle.tap_carried_world.proofs.Indices.{last_is_count, unfinished}
use Rattle.tap_carried_world.proofs.RunLogs.{Laws, agrees, plain_goes_on, plain_indices}

-- ---- steps that start or observe something

pub starts_as_step : (p : SettingsValue) (step : Step) → is_start step ≡ true → IsStep p true step → IsStep p false step
unfolding actor_of
starts_as_step p (Walk object asker) starts is = absurd (false≢true starts)
starts_as_step p (Root object) starts is = absurd (false≢true starts)
starts_as_step p (Deliver place) starts is = absurd (false≢true starts)
starts_as_step p Settle starts is = absurd (false≢true starts)
starts_as_step p SettleNewest starts is = absurd (false≢true starts)
starts_as_step p (SettleMixed seed) starts is = absurd (false≢true starts)
starts_as_step p (Table name) starts is = absurd (false≢true starts)
starts_as_step p (Pointers name) starts is = absurd (false≢true starts)
starts_as_step p (Garble place at byte) starts is = absurd (false≢true starts)
starts_as_step p (Cut place bytes) starts is = absurd (false≢true starts)
starts_as_step p Tick starts is = absurd (false≢true starts)
starts_as_step p (Lose place) starts is = absurd (false≢true starts)
starts_as_step p (Repeat place) starts is = absurd (false≢true starts)
starts_as_step p (RootSet object asker) starts is = absurd (false≢true starts)
starts_as_step p step starts is = is

pub observes_as_step : (p : SettingsValue) (step : Step) → observes step ≡ true → IsStep p true step → IsStep p false step
unfolding observes
observes_as_step p (Walk object asker) sees is = is
observes_as_step p (Root object) sees is = is
observes_as_step p (Table name) sees is = is
observes_as_step p (Pointers name) sees is = is
observes_as_step p step sees is = absurd (false≢true sees)

-- such a step is no choice, and is refused alike by the reduced log
pub record IsActing (step : Step) : Type 0 where
  pub acts : is_choice step ≡ false
  pub alike : starts_or_observes step ≡ true

pub start_acts : (step : Step) → is_start step ≡ true → IsActing step
unfolding actor_of is_choice starts_or_observes
start_acts (Walk object asker) starts = absurd (false≢true starts)
start_acts (Root object) starts = absurd (false≢true starts)
start_acts (Deliver place) starts = absurd (false≢true starts)
start_acts Settle starts = absurd (false≢true starts)
start_acts SettleNewest starts = absurd (false≢true starts)
start_acts (SettleMixed seed) starts = absurd (false≢true starts)
start_acts (Table name) starts = absurd (false≢true starts)
start_acts (Pointers name) starts = absurd (false≢true starts)
start_acts (Garble place at byte) starts = absurd (false≢true starts)
start_acts (Cut place bytes) starts = absurd (false≢true starts)
start_acts Tick starts = absurd (false≢true starts)
start_acts (Lose place) starts = absurd (false≢true starts)
start_acts (Repeat place) starts = absurd (false≢true starts)
start_acts (RootSet object asker) starts = absurd (false≢true starts)
start_acts step starts = record { acts = refl; alike = refl }

pub observation_acts : (step : Step) → observes step ≡ true → IsActing step
unfolding observes is_choice starts_or_observes
observation_acts (Walk object asker) sees = record { acts = refl; alike = refl }
observation_acts (Root object) sees = record { acts = refl; alike = refl }
observation_acts (Table name) sees = record { acts = refl; alike = refl }
observation_acts (Pointers name) sees = record { acts = refl; alike = refl }
observation_acts step sees = absurd (false≢true sees)

-- ---- answers

pub went_not_short : ◌≢◌ {A = Result (Unit {0}) Stop} (Ok tt) (Err NoMemory)
went_not_short same = cc

refused_not_short : (refusal : Refusal) → ◌≢◌ {A = Result (Unit {0}) Stop} (Err (Refused refusal)) (Err NoMemory)
refused_not_short refusal same = cc

ended_not_short : ◌≢◌ {A = Result (Unit {0}) Stop} (Err Ended) (Err NoMemory)
ended_not_short same = cc

-- ---- a world that goes on

module _ (laws : Laws) (s : ScenarioValue) (script : IsCarriedScript s) (w : WorldValue) (on : CarriesOn s w)
    (plain : reduced (whole_log w) ≡ w.log) where
  pub may_go_on : MayGoOn w
  may_go_on = record {
    noted = on.noted;
    unfinished = unfinished w.log (subst (λ l. is_ended l ≡ false) plain (plain_goes_on laws s script (whole_log w) on.played));
  }

  pub may_begin : (index : ℕ) (step : Step) → next_step s (whole_log w) ≡ Some step → index ≡ begun_count (whole_log w) + 1 → IsNextIndex w index
  may_begin index step next is =
      let last : last_index w.log ≡ begun_count (whole_log w) =
      last_is_count w.log (begun_count (whole_log w))
      (ap (filter_map index_of) (sym plain) ∙ plain_indices laws s script (whole_log w) on.played) in
      let left = slice_get_within s.steps (begun_count (whole_log w)) step next in
      let few = script.valid.steps_to in
      record { above = omega (arith, last, is); most = omega (arith, left, few, is) }

  pub refused_alike : (step : Step) → starts_or_observes step ≡ true → first_refusal w.log step ≡ first_refusal (whole_log w) step
  refused_alike step alike =
      ap (λ l. first_refusal l step) (sym plain) ∙ (agrees laws s script (whole_log w) on.played).refusals step alike

  -- with these records as many frames are sent
  sent_alike : (items : List Record) → sent_count (w.log ++ items) ≡ sent_count (whole_log w ++ items)
  sent_alike items =
      sent_count-append w.log items ∙ ap (λ n. n + sent_count items)
      (ap sent_count (sym plain) ∙ (agrees laws s script (whole_log w) on.played).sent)
      ∙ sym (sent_count-append (whole_log w) items)

  within_is : (items : List Record) → is_within w.beginning w.log items ≡ nat_le (sent_count (whole_log w ++ items)) s.frames
  within_is items =
      ap (λ b. nat_le (sent_count (w.log ++ items)) b.frames) on.beginning ∙ ap (λ n. nat_le n s.frames) (sent_alike items)

  pub few_sent : (items : List Record) → is_within w.beginning w.log items ≡ true → sent_count (whole_log w ++ items) ≤ s.frames
  few_sent items is = leb-true _ _ (sym (within_is items) ∙ is)

  pub many_sent : (items : List Record) → is_within w.beginning w.log items ≡ false → s.frames < sent_count (whole_log w ++ items)
  many_sent items is = leb-false _ _ (sym (within_is items) ∙ is)

-- ---- what the log of plain records has grown by

module _ (w v : WorldValue) where
  pub started_log : (index : ℕ) (step : Step) → WorldAnswersAs (step_outcome w index step) w (Ok tt) v → StepIsAdded w index step v
      → v.log ≡ w.log ++ step_group w.beginning.settings w.log index step
  started_log index step answers added =
      let group = step_group w.beginning.settings w.log index step in
      let first : List Record = StepRecord index step ∷ [] in
      answers.log went_not_short
      ∙ ap (λ b. (if b then world_stays w Ended else unless_refused w index step (first_refusal w.log step)).log) added.runs
      ∙ ap (λ r. (unless_refused w index step r).log) added.accepted
      ∙ ap (λ b. (if b then adds w group else spends w first).log) added.few

  pub refused_log : (index : ℕ) (step : Step) (refusal : Refusal) → WorldAnswersAs (step_outcome w index step) w (Err (Refused refusal)) v
      → StepIsRefused w index step refusal v → v.log ≡ w.log ++ StepRecord index step ∷ []
  refused_log index step refusal answers refused =
      answers.log (refused_not_short refusal)
      ∙ ap (λ b. (if b then world_stays w Ended else unless_refused w index step (first_refusal w.log step)).log) refused.runs
      ∙ ap (λ r. (unless_refused w index step r).log) refused.refused_for

  -- its refusal may be noted
  pub refused_may_note : (index : ℕ) (step : Step) (refusal : Refusal) → RemarksWithin w.log w.added
      → WorldAnswersAs (step_outcome w index step) w (Err (Refused refusal)) v → MayNote v index refusal
  refused_may_note index step refusal within answers =
      let refused = step_refused w index step v within refusal answers in
      record {
        step = step;
        last = ap last_of (refused_log index step refusal answers refused) ∙ last_of-push w.log (StepRecord index step);
        may = inl refused.refused;
      }

  -- a world that wasn't stopped doesn't answer that it was
  group_unended : (first group : List Record) (few : Bool) → ◌≢◌ {A = Result (Unit {0}) Stop} (if few then adds w group else spends w first).answer (Err Ended)
  group_unended first group true = λ same. cc
  group_unended first group false = λ same. cc

  refusal_unended : (index : ℕ) (step : Step) (refusal : Option Refusal) → ◌≢◌ {A = Result (Unit {0}) Stop} (unless_refused w index step refusal).answer (Err Ended)
  refusal_unended index step None =
      group_unended (StepRecord index step ∷ []) (step_group w.beginning.settings w.log index step)
      (is_within w.beginning w.log (step_group w.beginning.settings w.log index step))
  refusal_unended index step (Some refusal) = λ same. cc

  pub step_unended : (index : ℕ) (step : Step) → w.stopped ≡ false → WorldAnswersAs (step_outcome w index step) w (Err Ended) v → ⊥
  step_unended index step runs answers =
      refusal_unended index step (first_refusal w.log step)
      (sym (ap (λ b. (if b then world_stays w Ended else unless_refused w index step (first_refusal w.log step)).answer) runs)
      ∙ sym (answers.answer ended_not_short))

  pub taken_log : (place frame : ℕ) → slice_get (outstanding w.log) place ≡ Some frame → WorldAnswersAs (deliver_outcome w place) w (Ok tt) v
      → TakeIsAdded w frame v → v.log ≡ w.log ++ taken_group w.beginning.settings w.log frame
  taken_log place frame there answers added =
      let group = taken_group w.beginning.settings w.log frame in
      answers.log went_not_short
      ∙ ap (λ b. (if b then world_stays w Ended else takes_number w (slice_get (outstanding w.log) place)).log) added.runs
      ∙ ap (λ o. (takes_number w o).log) there
      ∙ ap (λ b. (if b then adds w group else spends w []).log) added.few

  -- it may go on if it does with these records
  pub goes_on_with : (first : Record) (items : List Record) → v.log ≡ w.log ++ first ∷ items → is_ended (first ∷ items) ≡ false
      → v.refused ≡ None → MayGoOn v
  goes_on_with first items log going noted = record {
    noted = noted;
    unfinished = unfinished v.log (ap is_ended log ∙ is_ended-append w.log first items ∙ going);
  }
