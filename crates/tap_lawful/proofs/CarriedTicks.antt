-- A tick that is due makes no more packets than may be made.
use Rattle.std.proofs.Common.{◌≡◌, ◌⊎◌, inl, inr, ℕ, ◌+◌, Bool, true, false, cond, List, [], ◌∷◌, ◌++◌, length, All, Option, None, Some, refl, ap, sym, subst, ◌∙◌, arith}
use Rattle.std.specs.Prelude.{◌&&◌}
use Rattle.std.specs.List.{filter_map}
use Rattle.std.proofs.lemmas.Bool.{false≢true}
use Rattle.std.proofs.lemmas.List.Sums.{fold-append}
use Rattle.tap_scenario.specs.Scenario.{ScenarioValue}
use Rattle.tap_scenario.specs.declared.step.Step.{Step}
use Rattle.tap_scenario.specs.declared.step.Step.TheVariants.{Tick}
use Rattle.tap_log.specs.declared.record.Record.{Record}
use Rattle.tap_log.specs.declared.record.Record.TheVariants.{Step as StepRecord, Arrived, Refused, Ticked}
use Rattle.tap_log.specs.declared.record.Refusal.{Refusal}
use Rattle.tap_log.specs.Counts.{resends, resent_count}
use Rattle.tap_log.specs.Kinds.{arrived_number, begins_group, packet_number, sent_number}
use Rattle.tap_log.specs.MoreRecords.{is_resending}
use Rattle.tap_log.proofs.MoreRecords.{filter_map-same, resent_count-push}
use Rattle.tap_history.specs.Moments.{acknowledged, acknowledged_by, acknowledged_by_all, awaiting, numbers_less, under_way}
use Rattle.tap_history.specs.Refusals.{first_refusal, packets_of_step}
use Rattle.tap_packets.specs.Bounds.{MaySettle, MayTick, due_after, is_due}
use Rattle.tap_packets.specs.Packets.{PacketLine, line_numbers, lines_under_way}
use Rattle.tap_runs.specs.Beginning.{Beginning}
use Rattle.tap_runs.specs.Course.{is_choice}
use Rattle.tap_carried.specs.LogTurns.{beginning_records}
use Rattle.tap_lawful.specs.CarriedDue.{CarriedChoice, carried_choice, carried_due, choice_after, no_choice}
use Rattle.tap_lawful.specs.CarriedDue.Due.{ArrivalDue, TickDue}
use Rattle.tap_lawful.specs.CarriedNext.{begun_group, choice_group, group_unless}
use Rattle.tap_lawful.specs.CarriedRuns.{CarriedComesNext}
use Rattle.tap_lawful.specs.Next.{begun_count}
use Rattle.tap_lawful.proofs.CarriedChoosing.{IsSameChoice, arrival_due, calm_after, due_back, items_same, step_resends, stranded_is, tick_due}
use Rattle.tap_lawful.proofs.CarriedComing.{begun_head, carried_coming}
use Rattle.tap_lawful.proofs.CarriedMoves.{few_resent}
use Rattle.tap_lawful.proofs.CarriedWhole.{IsCarriedWhole, after_alone}

-- ---- a `tick` step

tick_is_due : (log : List Record) (index : ℕ) → is_due (log ++ StepRecord index Tick ∷ []) ≡ true
unfolding due_after
tick_is_due log index = fold-append due_after false log (StepRecord index Tick ∷ [])

and_false : (b : Bool) → cond {A = ℕ} (b && false) 1 0 ≡ 0
and_false true = refl
and_false false = refl

module _ (log : List Record) (index : ℕ) where
  abbrev longer : List Record
  longer = log ++ StepRecord index Tick ∷ []

  none_resent : resent_count longer ≡ resent_count log + 0
  unfolding packet_number
  none_resent =
      resent_count-push log (StepRecord index Tick) ∙ ap (λ n. resent_count log + n) (and_false (is_resending log))

  same_acknowledged : acknowledged longer ≡ acknowledged log
  unfolding arrived_number acknowledged_by
  same_acknowledged =
      ap (λ arrived. acknowledged_by_all arrived longer) (filter_map-same arrived_number log (StepRecord index Tick) refl)
      ∙ filter_map-same (acknowledged_by (filter_map arrived_number log)) log (StepRecord index Tick) refl

  same_awaiting : awaiting longer ≡ awaiting log
  unfolding sent_number
  same_awaiting =
      ap (λ l. numbers_less l (acknowledged longer)) (filter_map-same sent_number log (StepRecord index Tick) refl)
      ∙ ap (numbers_less (filter_map sent_number log)) same_acknowledged

  tick_makes : packets_of_step log Tick ≡ Some (length (awaiting log))
  unfolding packets_of_step
  tick_makes = refl

  -- once it is accepted, its tick may come
  may_tick : first_refusal log Tick ≡ None → MayTick longer
  may_tick accepted =
      let few = few_resent log Tick (length (awaiting log)) accepted tick_makes in
      let made = none_resent in
      let size = ap length same_awaiting in
      record { due = tick_is_due log index; resent = omega (arith, few, made, size) }

-- ---- each log of a run

-- if the last step is a `tick` step that isn't refused, and its tick hasn't come, the tick may come
abbrev pub TicksRight : List Record → Type 0
TicksRight log = (carried_choice log).step ≡ Some Tick → (carried_choice log).refused ≡ false → (carried_choice log).ticked ≡ 0 → MayTick log

choice_of_group : (log : List Record) (first : Record) (after : List Record) → All (λ item. begins_group true item ≡ false) after
    → IsSameChoice (carried_choice (log ++ first ∷ after)) (choice_after (carried_choice log) first)
choice_of_group log first after alone =
    subst (λ c. IsSameChoice c (choice_after (carried_choice log) first)) (sym (fold-append choice_after no_choice log (first ∷ after)))
    (items_same (choice_after (carried_choice log) first) after alone)

module _ (s : ScenarioValue) (log group : List Record) (w : IsCarriedWhole log group) where
  after_first : (first : Record) (items : List Record) → first ∷ items ≡ group
      → IsSameChoice (carried_choice (log ++ group)) (choice_after (carried_choice log) first)
  after_first first items is =
      subst (λ g. IsSameChoice (carried_choice (log ++ g)) (choice_after (carried_choice log) first)) is
      (choice_of_group log first items (after_alone log group first items w is))

  -- the step of a packet that arrives isn't a `tick` step
  arrival_right : (packet : ℕ) (items : List Record) (step : Step) → Arrived packet ∷ items ≡ group
      → (carried_choice log).step ≡ Some step → resends step ≡ false → TicksRight (log ++ group)
  unfolding choice_after resends
  arrival_right packet items step is last none = λ ticking accepted ticked.
      let same = after_first (Arrived packet) items is in
      let again : step_resends (Some step) ≡ true = ap step_resends (sym last ∙ sym same.step ∙ ticking) in
      absurd (false≢true (sym none ∙ again))

  -- after its tick none is due
  tick_right : (items : List Record) → Ticked ∷ items ≡ group → TicksRight (log ++ group)
  unfolding choice_after
  tick_right items is = λ ticking accepted ticked.
      let same = after_first Ticked items is in
      let more : (carried_choice log).ticked + 1 ≡ 0 = sym same.ticked ∙ ticked in
      absurd (omega (arith, more))

  -- a refused step is told so
  refused_told : (index : ℕ) (step : Step) (refusal : Refusal) → StepRecord index step ∷ Refused index refusal ∷ [] ≡ group
      → (carried_choice (log ++ group)).refused ≡ true
  unfolding choice_after
  refused_told index step refusal is =
      ap (λ g. (carried_choice (log ++ g)).refused) (sym is)
      ∙ ap (λ (c : CarriedChoice). c.refused) (fold-append choice_after no_choice log (StepRecord index step ∷ Refused index refusal ∷ []))

  tick_begins : (index : ℕ) (refusal : Option Refusal) → first_refusal log Tick ≡ refusal
      → group_unless s.settings log index Tick refusal ≡ group → (carried_choice (log ++ group)).refused ≡ false → MayTick (log ++ group)
  unfolding is_choice choice_group
  tick_begins index (Some refusal) refused is accepted =
      absurd (false≢true (sym accepted ∙ refused_told index Tick refusal is))
  tick_begins index None none is accepted = subst (λ g. MayTick (log ++ g)) is (may_tick log index none)

  some_same : (one other : Step) → Some one ≡ Some other → one ≡ other
  some_same one other is = cc

  begun_right : (index : ℕ) (step : Step) (items : List Record) → StepRecord index step ∷ items ≡ group
      → begun_group s.settings log index step ≡ group → TicksRight (log ++ group)
  unfolding choice_after
  begun_right index step items head is = λ ticking accepted ticked.
      let same = after_first (StepRecord index step) items head in
      let tick : step ≡ Tick = some_same step Tick (sym same.step ∙ ticking) in
      tick_begins index (first_refusal log Tick) refl (subst (λ t. begun_group s.settings log index t ≡ group) tick is) accepted

  pub ticks_kept : CarriedComesNext s log group → TicksRight (log ++ group)
  ticks_kept comes =
      elim (carried_coming s log group comes) [
        | inl arrives ↦
            let due = due_back log (ArrivalDue arrives.line) arrives.due in
            arrival_right arrives.line.number _ due.step arrives.is due.is (arrival_due log arrives.line due).1
        | inr (inl ticks) ↦ tick_right _ ticks.is
        | inr (inr begins) ↦
            let index = begun_count log + 1 in
            let head = begun_head s.settings log index begins.step (first_refusal log begins.step) in
            begun_right index begins.step head.0 (head.1 ∙ begins.is) begins.is
      ]

pub ticks_start : (b : Beginning) → TicksRight (beginning_records true b)
unfolding choice_after
ticks_start b = λ ticking accepted ticked. absurd (cc)

-- ---- a tick that is due

no_lines : (lines : List PacketLine) → line_numbers lines ≡ [] → lines ≡ []
no_lines [] is = refl
no_lines (line ∷ lines) is = absurd (cc)

-- it is that of a `tick` step, or a settle may tick
pub tick_allowed : (log : List Record) → under_way log ≡ line_numbers (lines_under_way log) → carried_due log ≡ Some TickDue → TicksRight log
    → MayTick log ⊎ MaySettle log
tick_allowed log numbers is right =
    let due = due_back log TickDue is in
    elim (tick_due log due) [
      | inl (tick, none) ↦ inl (right (due.is ∙ ap Some tick) due.accepted none)
      | inr (none, stranded) ↦
          let both = stranded_is log stranded in
          inr (record {
            calm = calm_after log due.step due.is none;
            none = no_lines (lines_under_way log) (sym numbers ∙ both.0);
            some = both.1;
          })
    ]
