-- What a step of a carried run has chosen, and how many steps were begun, once its group was added.
use Rattle.std.proofs.Common.{◌≡◌, ℕ, ◌+◌, ◌≤◌, Bool, true, false, List, [], ◌∷◌, ◌++◌, length, All, Option, None, Some, refl, ap, sym, subst, ◌∙◌, length-append}
use Rattle.std.specs.Prelude.{option_and_then, slice_get}
use Rattle.std.specs.List.{filter_map}
use Rattle.std.specs.Option.{option_map}
use Rattle.std.proofs.lemmas.Bool.{false≢true}
use Rattle.std.proofs.lemmas.List.Elements.{filter_map-append}
use Rattle.std.proofs.lemmas.List.Sums.{fold-append}
use Rattle.tap_name.specs.Settings.{SettingsValue}
use Rattle.tap_scenario.specs.declared.step.Step.{Step}
use Rattle.tap_scenario.specs.declared.step.Step.TheVariants.{Deliver, Lose, Repeat, RootSet, Settle, SettleMixed, SettleNewest, Tick}
use Rattle.tap_scenario.specs.Scenario.{ScenarioValue}
use Rattle.tap_log.specs.declared.record.Record.{Record}
use Rattle.tap_log.specs.declared.record.Record.TheVariants.{Lost, Refused, Step as StepRecord}
use Rattle.tap_log.specs.declared.record.Refusal.{Refusal}
use Rattle.tap_log.specs.Counts.{sent_count}
use Rattle.tap_log.specs.Kinds.{begins_group, step_of}
use Rattle.tap_history.specs.Refusals.{first_refusal}
use Rattle.tap_packets.specs.Groups.{copied_line}
use Rattle.tap_packets.specs.Packets.{PacketLine, lines_under_way, packet_record}
use Rattle.tap_runs.specs.Course.{is_choice}
use Rattle.tap_lawful.specs.CarriedDue.{CarriedChoice, carried_choice, carried_due, choice_after, no_choice, tick_chosen}
use Rattle.tap_lawful.specs.CarriedNext.{begun_group, carried_group_after, choice_group, losing_group, repeating_group}
use Rattle.tap_lawful.specs.CarriedRuns.{CarriedComesNext, IsCarriedPlayed, IsCarriedScript}
use Rattle.tap_lawful.specs.Due.{place_chosen}
use Rattle.tap_lawful.specs.Next.{begun_count, next_step}
use Rattle.tap_lawful.specs.RootSets.{roots_record}
use Rattle.tap_lawful.proofs.CarriedChoosing.{items_same}
use Rattle.tap_lawful.proofs.CarriedComing.{begun_head}
use Rattle.tap_lawful.proofs.CarriedGrowth.{within_none}
use Rattle.tap_lawful.proofs.CarriedReduction.{carried_run, whole_next}
use Rattle.tap_lawful.proofs.CarriedWhole.{after_alone}
use Rattle.tap_replay.specs.CarriedChosen.{AreChosen}
use Rattle.tap_replay.specs.Choice.{IsChoiceOf, begun_by}
use Rattle.tap_replay.specs.Ticks.{AreTicksOf}
use Rattle.tap_replay.specs.declared.choice.Choice.{Choice}
use Rattle.tap_replay.specs.declared.choice.Choice.TheVariants.{Nothing}
use Rattle.tap_replay.specs.declared.ticks.Ticks.{Ticks}
use Rattle.tap_replay.specs.declared.ticks.Ticks.TheVariants.{Never}

-- ---- steps that choose nothing

no_place : (step : Step) (taken count : ℕ) → is_choice step ≡ false → place_chosen step taken count ≡ None
unfolding is_choice place_chosen
no_place (Deliver place) taken count not = absurd (false≢true (sym not))
no_place Settle taken count not = absurd (false≢true (sym not))
no_place SettleNewest taken count not = absurd (false≢true (sym not))
no_place (SettleMixed seed) taken count not = absurd (false≢true (sym not))
no_place step taken count not = refl

no_tick : (step : Step) (ticked : ℕ) (stranded : Bool) → is_choice step ≡ false → tick_chosen step ticked stranded ≡ false
unfolding is_choice tick_chosen
no_tick Tick ticked stranded not = absurd (false≢true (sym not))
no_tick Settle ticked stranded not = absurd (false≢true (sym not))
no_tick SettleNewest ticked stranded not = absurd (false≢true (sym not))
no_tick (SettleMixed seed) ticked stranded not = absurd (false≢true (sym not))
no_tick step ticked stranded not = refl

some_same : (one other : Step) → Some one ≡ Some other → one ≡ other
some_same one other is = cc

-- the step chooses no packet and no tick
pub record ChoosesNothing (step : Step) : Type 0 where
  pub place : (taken count : ℕ) → place_chosen step taken count ≡ None
  pub tick : (ticked : ℕ) (stranded : Bool) → tick_chosen step ticked stranded ≡ false

-- so it is of starts and observations, and of root sets
pub other_chooses : (step : Step) → is_choice step ≡ false → ChoosesNothing step
other_chooses step not = record {
  place = λ taken count. no_place step taken count not;
  tick = λ ticked stranded. no_tick step ticked stranded not;
}

pub root_set_chooses : (object asker : List ℕ) → ChoosesNothing (RootSet object asker)
unfolding place_chosen tick_chosen
root_set_chooses object asker = record { place = λ taken count. refl; tick = λ ticked stranded. refl }

-- after a step that chooses nothing nothing is chosen
pub nothing_after : (c : CarriedChoice) (step : Step) → c.step ≡ Some step → ChoosesNothing step → AreChosen c Nothing Never
nothing_after c step last nothing = record {
  refused = λ _. (refl, refl);
  chosen = λ _ count. ap (option_and_then (λ s. place_chosen s c.arrived count)) last ∙ nothing.place c.arrived count;
  none = λ _. refl;
  ticked = λ other is accepted stranded.
      let same : step ≡ other = some_same step other (sym last ∙ is) in
      (subst ChoosesNothing same nothing).tick c.ticked stranded;
}

-- a step that was refused, and one that wasn't
abbrev pub begun_choice : Step → Bool → CarriedChoice
begun_choice step refused = record { step = Some step; arrived = 0; ticked = 0; refused = refused }

pub nothing_refused : (step : Step) → AreChosen (begun_choice step true) Nothing Never
nothing_refused step = record {
  refused = λ _. (refl, refl);
  chosen = λ accepted. absurd (false≢true (sym accepted));
  none = λ _. refl;
  ticked = λ other is accepted. absurd (false≢true (sym accepted));
}

pub chosen_accepted : (step : Step) (choice : Choice) (ticks : Ticks) → IsChoiceOf (begun_by step) choice → AreTicksOf step 0 ticks
    → AreChosen (begun_choice step false) choice ticks
chosen_accepted step choice ticks chosen ticked = record {
  refused = λ wrong. absurd (false≢true wrong);
  chosen = λ _. chosen;
  none = λ wrong. absurd (cc);
  ticked = λ other is accepted. let same : step ≡ other = some_same step other is in subst (λ st. AreTicksOf st 0 ticks) same ticked;
}

-- ---- the group of a choice

module _ (log : List Record) (index : ℕ) (step : Step) where
  alone : carried_choice (log ++ StepRecord index step ∷ []) ≡ begun_choice step false
  unfolding choice_after
  alone = fold-append choice_after no_choice log (StepRecord index step ∷ [])

  pub refused_choice : (refusal : Refusal) → carried_choice (log ++ StepRecord index step ∷ Refused index refusal ∷ []) ≡ begun_choice step true
  unfolding choice_after
  refused_choice refusal = fold-append choice_after no_choice log (StepRecord index step ∷ Refused index refusal ∷ [])

  losing : (line : Option PacketLine) (place : ℕ) → step ≡ Lose place → carried_choice (log ++ losing_group index place line) ≡ begun_choice step false
  unfolding choice_after
  losing None place is = ap (λ st. carried_choice (log ++ StepRecord index st ∷ [])) (sym is) ∙ alone
  losing (Some line) place is =
      ap (λ st. carried_choice (log ++ StepRecord index st ∷ Lost line.number ∷ [])) (sym is)
      ∙ fold-append choice_after no_choice log (StepRecord index step ∷ Lost line.number ∷ [])

  repeating : (line : Option PacketLine) (place : ℕ) → step ≡ Repeat place
      → carried_choice (log ++ repeating_group log index place line) ≡ begun_choice step false
  unfolding choice_after
  repeating None place is = ap (λ st. carried_choice (log ++ StepRecord index st ∷ [])) (sym is) ∙ alone
  repeating (Some line) place is =
      ap (λ st. carried_choice (log ++ StepRecord index st ∷ packet_record (copied_line log line) ∷ [])) (sym is)
      ∙ fold-append choice_after no_choice log (StepRecord index step ∷ packet_record (copied_line log line) ∷ [])

rooted : (p : SettingsValue) (log : List Record) (index : ℕ) (object asker : List ℕ)
    → carried_choice (log ++ StepRecord index (RootSet object asker) ∷ roots_record p log object asker ∷ []) ≡ begun_choice (RootSet object asker) false
unfolding choice_after
rooted p log index object asker =
    fold-append choice_after no_choice log (StepRecord index (RootSet object asker) ∷ roots_record p log object asker ∷ [])

pub accepted_choice : (p : SettingsValue) (log : List Record) (index : ℕ) (step : Step)
    → carried_choice (log ++ choice_group p log index step) ≡ begun_choice step false
unfolding choice_group
accepted_choice p log index (Lose place) = losing log index (Lose place) (slice_get (lines_under_way log) place) place refl
accepted_choice p log index (Repeat place) = repeating log index (Repeat place) (slice_get (lines_under_way log) place) place refl
accepted_choice p log index (RootSet object asker) = rooted p log index object asker
accepted_choice p log index step = alone log index step

-- ---- the group that comes next, if a step begins

module _ (s : ScenarioValue) (log group : List Record) (script : IsCarriedScript s) (played : IsCarriedPlayed s log) (step : Step)
    (none : carried_due log ≡ None) (next : next_step s log ≡ Some step)
    (is : begun_group s.settings log (begun_count log + 1) step ≡ group) (within : sent_count (log ++ group) ≤ s.frames) where
  abbrev index : ℕ
  index = begun_count log + 1

  comes : CarriedComesNext s log group
  comes =
      ap (carried_group_after s log) none ∙ ap (option_map (begun_group s.settings log index)) next ∙ ap Some is

  -- it is the step, and what begins no group
  record BeginsSo : Type 0 where
    items : List Record
    same : StepRecord index step ∷ items ≡ group
    alone : All (λ item. begins_group true item ≡ false) items

  begins_so : BeginsSo
  begins_so =
      let head = begun_head s.settings log index step (first_refusal log step) in
      let same : StepRecord index step ∷ head.0 ≡ group = head.1 ∙ is in
      let whole = whole_next s script log group (carried_run s script log played) comes within in
      record { items = head.0; same = same; alone = after_alone log group (StepRecord index step) head.0 whole same }

  pub begun_one_more : begun_count (log ++ group) ≡ begun_count log + 1
  begun_one_more =
      let so = begins_so in
      ap (λ g. begun_count (log ++ g)) (sym so.same) ∙ ap length (filter_map-append step_of log (StepRecord index step ∷ so.items))
      ∙ length-append (filter_map step_of log) (step ∷ filter_map step_of so.items)
      ∙ ap (λ steps. begun_count log + length (step ∷ steps)) (within_none so.items so.alone).steps_are

  pub last_begun : (carried_choice (log ++ group)).step ≡ Some step
  unfolding choice_after
  last_begun =
      let so = begins_so in
      let first = choice_after (carried_choice log) (StepRecord index step) in
      ap (λ g. (carried_choice (log ++ g)).step) (sym so.same)
      ∙ ap (λ (c : CarriedChoice). c.step) (fold-append choice_after no_choice log (StepRecord index step ∷ so.items))
      ∙ (items_same first so.items so.alone).step
