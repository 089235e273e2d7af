-- The group that comes next in a carried run is added.
use Rattle.std.proofs.Common.{◌≡◌, ℕ, ◌+◌, ◌≤◌, true, false, List, ◌++◌, Option, None, Some, Result, Ok, Err, refl, ap, sym, subst, ◌∙◌}
use Rattle.std.specs.Prelude.{is_some}
use Rattle.std.specs.Option.{option_map}
use Rattle.std.proofs.lemmas.Bool.{false≢true}
use Rattle.tap_name.specs.Settings.{SettingsValue}
use Rattle.tap_scenario.specs.Step.{IsStep}
use Rattle.tap_scenario.specs.declared.step.Step.{Step}
use Rattle.tap_scenario.specs.declared.step.Step.TheVariants.{Cut, Deliver, Garble, Lose, Pointers, Repeat, Root, RootSet, Settle, SettleMixed, SettleNewest, Table, Tick, Walk}
use Rattle.tap_scenario.specs.Scenario.{ScenarioValue}
use Rattle.tap_log.specs.declared.record.Record.{Record}
use Rattle.tap_log.specs.declared.record.Refusal.{Refusal}
use Rattle.tap_log.specs.Counts.{sent_count}
use Rattle.tap_history.specs.Refusals.{first_refusal}
use Rattle.tap_history.specs.StepAsks.{actor_of, is_start}
use Rattle.tap_engine.specs.Kinds.{damages, observes}
use Rattle.tap_runs.specs.Course.{is_choice}
use Rattle.tap_packets.specs.Groups.{arrival_group, tick_group}
use Rattle.tap_packets.specs.Packets.{PacketLine}
use Rattle.tap_engine.specs.World.{whole_log}
use Rattle.tap_carried_world.specs.Adds.{AddsNext, HasAdded as WorldHasAdded}
use Rattle.tap_carried_world.specs.Value.{CarriesRun}
use Rattle.tap_engine.specs.declared.stop.Stop.{Stop}
use Rattle.tap_engine.specs.declared.stop.Stop.TheVariants.{Ended, NoMemory, Refused, Spent}
use Rattle.tap_lawful.specs.CarriedDue.{Due, carried_choice, carried_due}
use Rattle.tap_lawful.specs.CarriedDue.Due.{ArrivalDue, TickDue}
use Rattle.tap_lawful.specs.CarriedNext.{begun_group, carried_group_after, carried_next_group, group_unless, reduced_taken_records}
use Rattle.tap_lawful.specs.Next.{begun_count, next_step}
use Rattle.tap_replay.specs.CarriedChosen.{AreChosen}
use Rattle.tap_replay.specs.CarriedRun.{AddsCarried, HasGrown, IsCarriedRunOf}
use Rattle.tap_replay.specs.Choice.{IsChoiceOf, begun_by}
use Rattle.tap_replay.specs.Ticks.{AreTicksOf}
use Rattle.tap_replay.specs.declared.carried_run.CarriedRun.{CarriedRun}
use Rattle.tap_replay.specs.declared.choice.Choice.TheVariants.{Nothing}
use Rattle.tap_replay.specs.declared.ticks.Ticks.TheVariants.{Never}
use Rattle.tap_replay.proofs.CarriedGroups.{begun_arrived, begun_ticked, choice_arrived, choice_ticked, one_more_arrived, one_more_ticked}
use Rattle.tap_replay.proofs.CarriedSteps.{ChoosesNothing, accepted_choice, begun_choice, begun_one_more, chosen_accepted, last_begun, nothing_after, nothing_refused, refused_choice}

-- ---- what comes next

-- whether something is refused
pub no_refusal : (refusal : Option Refusal) → is_some refusal ≡ false → refusal ≡ None
no_refusal (Some refusal) is = absurd (cc)
no_refusal None is = refl

pub some_refusal : (refusal : Option Refusal) → is_some refusal ≡ true → (which : Refusal) × (refusal ≡ Some which)
some_refusal (Some refusal) is = (refusal, refl)
some_refusal None is = absurd (cc)

some_group : (one other : List Record) → Some one ≡ Some other → one ≡ other
some_group one other is = cc

module _ (s : ScenarioValue) (log : List Record) where
  pub arrival_next : (line : PacketLine) → carried_due log ≡ Some (ArrivalDue line)
      → carried_next_group s log ≡ Some (arrival_group log line (reduced_taken_records s.settings log line.frame))
  arrival_next line due = ap (carried_group_after s log) due

  pub tick_next : carried_due log ≡ Some TickDue → carried_next_group s log ≡ Some (tick_group log)
  tick_next due = ap (carried_group_after s log) due

  pub step_next : (step : Step) → carried_due log ≡ None → next_step s log ≡ Some step
      → carried_next_group s log ≡ Some (begun_group s.settings log (begun_count log + 1) step)
  step_next step none next =
      ap (carried_group_after s log) none ∙ ap (option_map (begun_group s.settings log (begun_count log + 1))) next

  pub no_step_next : carried_due log ≡ None → next_step s log ≡ None → carried_next_group s log ≡ None
  no_step_next none next =
      ap (carried_group_after s log) none ∙ ap (option_map (begun_group s.settings log (begun_count log + 1))) next

-- ---- a group is added

-- with the group so many steps have begun, and this is chosen
pub record HasChosen (log group : List Record) (after : CarriedRun) : Type 0 where
  pub begun : after.begun ≡ begun_count (log ++ group)
  pub chosen : AreChosen (carried_choice (log ++ group)) after.choice after.ticks

module _ (s : ScenarioValue) (before after : CarriedRun) (group : List Record)
    (next : carried_next_group s (whole_log before.carried.world) ≡ Some group) where
  abbrev old : List Record
  old = whole_log before.carried.world

  grown : WorldHasAdded s before.carried.world after.carried.world after.carried.carrier
      → (sent_count (old ++ group) ≤ s.frames → HasChosen old group after) → HasGrown s (Some group) before after
  grown added chooses =
      let same : added.group ≡ group = some_group added.group group (sym added.next ∙ next) in
      let log : whole_log after.carried.world ≡ old ++ group = added.log ∙ ap (λ g. old ++ g) same in
      let within : sent_count (old ++ group) ≤ s.frames =
      subst (λ l. sent_count l ≤ s.frames) log added.keeps.goes_on.played.within in
      let chosen = chooses within in
      record {
        log = log;
        run = record {
          carries = added.keeps;
          begun = chosen.begun ∙ ap begun_count (sym log);
          chosen = subst (λ l. AreChosen (carried_choice l) after.choice after.ticks) (sym log) chosen.chosen;
        };
      }

  -- the answer of the world is that of the run
  pub adds : (given : Result (Unit {0}) Stop) → AddsNext s before.carried.world given after.carried.world after.carried.carrier
      → (sent_count (old ++ group) ≤ s.frames → HasChosen old group after) → AddsCarried s before given after
  adds (Ok tt) added chooses = subst (λ n. HasGrown s n before after) (sym next) (grown added chooses)
  adds (Err Spent) spent chooses = spent
  adds (Err NoMemory) lacked chooses = lacked
  adds (Err (Refused refusal)) never chooses = absurd never
  adds (Err Ended) never chooses = absurd never

-- ---- a packet arrives, or a tick comes

module _ (s : ScenarioValue) (before after : CarriedRun) (of : IsCarriedRunOf s before) (begun : after.begun ≡ before.begun) where
  pub arrival_adds : (line : PacketLine) → carried_due (whole_log before.carried.world) ≡ Some (ArrivalDue line)
      → AreChosen (one_more_arrived (carried_choice (whole_log before.carried.world))) after.choice after.ticks
      → (given : Result (Unit {0}) Stop) → AddsNext s before.carried.world given after.carried.world after.carried.carrier
      → AddsCarried s before given after
  arrival_adds line due chosen given so =
      let log = whole_log before.carried.world in
      adds s before after (arrival_group log line (reduced_taken_records s.settings log line.frame)) (arrival_next s log line due) given so
      (λ within. record {
        begun = begun ∙ of.begun ∙ sym (begun_arrived s.settings log line);
        chosen = subst (λ c. AreChosen c after.choice after.ticks) (sym (choice_arrived s.settings log line)) chosen;
      })

  pub tick_adds : carried_due (whole_log before.carried.world) ≡ Some TickDue
      → AreChosen (one_more_ticked (carried_choice (whole_log before.carried.world))) after.choice after.ticks
      → (given : Result (Unit {0}) Stop) → AddsNext s before.carried.world given after.carried.world after.carried.carrier
      → AddsCarried s before given after
  tick_adds due chosen given so =
      let log = whole_log before.carried.world in
      adds s before after (tick_group log) (tick_next s log due) given so (λ within. record {
        begun = begun ∙ of.begun ∙ sym (begun_ticked log);
        chosen = subst (λ c. AreChosen c after.choice after.ticks) (sym (choice_ticked log)) chosen;
      })

-- ---- a step begins

module _ (s : ScenarioValue) (before after : CarriedRun) (carries : CarriesRun s before.carried.world before.carried.carrier) (step : Step)
    (none : carried_due (whole_log before.carried.world) ≡ None) (next : next_step s (whole_log before.carried.world) ≡ Some step)
    (begun : after.begun ≡ begun_count (whole_log before.carried.world) + 1) where
  abbrev log : List Record
  log = whole_log before.carried.world

  abbrev index : ℕ
  index = begun_count log + 1

  abbrev group : List Record
  group = begun_group s.settings log index step

  step_adds : ((given : Result (Unit {0}) Stop) → AddsNext s before.carried.world given after.carried.world after.carried.carrier
      → (sent_count (log ++ group) ≤ s.frames → AreChosen (carried_choice (log ++ group)) after.choice after.ticks)
      → AddsCarried s before given after)
  step_adds given so chosen =
      adds s before after group (step_next s log step none next) given so (λ within. record {
        begun = begun
            ∙ sym (begun_one_more s log group carries.script carries.goes_on.played step none next refl within);
        chosen = chosen within;
      })

  -- one that chooses nothing
  pub other_adds : ChoosesNothing step → after.choice ≡ Nothing → after.ticks ≡ Never → (given : Result (Unit {0}) Stop)
      → AddsNext s before.carried.world given after.carried.world after.carried.carrier → AddsCarried s before given after
  other_adds nothing choice ticks given so =
      step_adds given so (λ within.
      let last = last_begun s log group carries.script carries.goes_on.played step none next refl within in
      subst (λ c. AreChosen (carried_choice (log ++ group)) c after.ticks) (sym choice)
      (subst (λ t. AreChosen (carried_choice (log ++ group)) Nothing t) (sym ticks)
      (nothing_after (carried_choice (log ++ group)) step last nothing)))

  -- a choice that is refused, and one that isn't
  pub refused_adds : (refusal : Refusal) → first_refusal log step ≡ Some refusal → after.choice ≡ Nothing → after.ticks ≡ Never
      → (given : Result (Unit {0}) Stop) → AddsNext s before.carried.world given after.carried.world after.carried.carrier
      → AddsCarried s before given after
  refused_adds refusal refused choice ticks given so =
      let is : carried_choice (log ++ group) ≡ begun_choice step true =
      ap (λ r. carried_choice (log ++ group_unless s.settings log index step r)) refused ∙ refused_choice log index step refusal in
      step_adds given so (λ within.
      subst (λ c. AreChosen c after.choice after.ticks) (sym is)
      (subst (λ c. AreChosen (begun_choice step true) c after.ticks) (sym choice)
      (subst (λ t. AreChosen (begun_choice step true) Nothing t) (sym ticks) (nothing_refused step))))

  accepted_is : is_choice step ≡ true → first_refusal log step ≡ None → carried_choice (log ++ group) ≡ begun_choice step false
  accepted_is chooses accepted =
      ap (λ r. carried_choice (log ++ group_unless s.settings log index step r)) accepted
      ∙ (rw chooses (accepted_choice s.settings log index step))

  pub choice_adds : is_choice step ≡ true → first_refusal log step ≡ None → IsChoiceOf (begun_by step) after.choice
      → AreTicksOf step 0 after.ticks → (given : Result (Unit {0}) Stop)
      → AddsNext s before.carried.world given after.carried.world after.carried.carrier → AddsCarried s before given after
  choice_adds chooses accepted choice ticks given so =
      step_adds given so (λ within.
      subst (λ c. AreChosen c after.choice after.ticks) (sym (accepted_is chooses accepted))
      (chosen_accepted step after.choice after.ticks choice ticks))

-- ---- the kinds of steps

-- a carried scenario damages no copy
pub never_damages : (p : SettingsValue) (step : Step) → IsStep p true step → damages step ≡ true → ⊥
unfolding damages
never_damages p (Garble place at byte) is damaging = false≢true (sym is.0)
never_damages p (Cut place bytes) is damaging = false≢true (sym is.0)
never_damages p step is damaging = false≢true damaging

pub start_chooses_nothing : (step : Step) → is_start step ≡ true → is_choice step ≡ false
unfolding actor_of is_choice
start_chooses_nothing (Deliver place) is = absurd (false≢true is)
start_chooses_nothing Settle is = absurd (false≢true is)
start_chooses_nothing SettleNewest is = absurd (false≢true is)
start_chooses_nothing (SettleMixed seed) is = absurd (false≢true is)
start_chooses_nothing Tick is = absurd (false≢true is)
start_chooses_nothing (Lose place) is = absurd (false≢true is)
start_chooses_nothing (Repeat place) is = absurd (false≢true is)
start_chooses_nothing (RootSet object asker) is = absurd (false≢true is)
start_chooses_nothing step is = refl

pub observation_chooses_nothing : (step : Step) → observes step ≡ true → is_choice step ≡ false
unfolding observes is_choice
observation_chooses_nothing (Walk object asker) is = refl
observation_chooses_nothing (Root object) is = refl
observation_chooses_nothing (Table name) is = refl
observation_chooses_nothing (Pointers name) is = refl
observation_chooses_nothing step is = absurd (false≢true is)

-- ---- whether a group comes next

module _ (s : ScenarioValue) (log : List Record) where
  pub more_due : (due : Due) → carried_due log ≡ Some due → is_some (carried_next_group s log) ≡ true
  more_due (ArrivalDue line) is = ap is_some (arrival_next s log line is)
  more_due TickDue is = ap is_some (tick_next s log is)

  pub more_step : carried_due log ≡ None → is_some (carried_next_group s log) ≡ is_some (next_step s log)
  more_step none = by_step (next_step s log) refl
    where
      by_step : (step : Option Step) → next_step s log ≡ step → is_some (carried_next_group s log) ≡ is_some step
      by_step (Some step) is = ap is_some (step_next s log step none is)
      by_step None is = ap is_some (no_step_next s log none is)
