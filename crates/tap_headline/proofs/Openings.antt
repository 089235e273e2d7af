-- The first record of the group that comes next in a carried run: a step begins, a packet arrives, or it is a tick.
use Rattle.std.proofs.Common.{◌≡◌, ◌⊎◌, inl, inr, ℕ, ◌+◌, true, List, [], ◌∷◌, None, Some, refl, ◌∙◌}
use Rattle.tap_name.specs.Settings.{SettingsValue}
use Rattle.tap_scenario.specs.declared.step.Step.{Step}
use Rattle.tap_scenario.specs.Scenario.{ScenarioValue}
use Rattle.tap_log.specs.declared.record.Record.{Record}
use Rattle.tap_log.specs.declared.record.Record.TheVariants.{Arrived, Spent, Step as StepRecord, Ticked}
use Rattle.tap_log.specs.Counts.{packet_count}
use Rattle.tap_log.specs.Kinds.{begins_group, packet_number, sent_number, taken_number}
use Rattle.tap_log.specs.Log.{begun_steps}
use Rattle.tap_log.specs.Reduced.{is_added, reduced}
use Rattle.tap_history.specs.Refusals.{first_refusal}
use Rattle.tap_lawful.specs.CarriedRuns.{CarriedComesNext}
use Rattle.tap_lawful.specs.Next.{begun_count, next_step}
use Rattle.tap_lawful.proofs.CarriedComing.{begun_head, carried_coming}
use Rattle.tap_headline.specs.Endings.{MayEnd}
use Rattle.tap_headline.proofs.PrintedRecords.{CanPrint}

-- the record begins a step, or a packet arrives, or a tick comes
unfoldable pub IsOpening : Record → Type 0
IsOpening (StepRecord index step) = Unit {0}
IsOpening (Arrived packet) = Unit {0}
IsOpening Ticked = Unit {0}
IsOpening other = ⊥

-- the record begins the step that is next
pub record BeginsStep (s : ScenarioValue) (log : List Record) (first : Record) : Type 0 where
  pub step : Step
  pub is : begun_steps (first ∷ []) ≡ step ∷ []
  pub next : next_step s log ≡ Some step

-- the group begins with such a record
pub record HasOpening (s : ScenarioValue) (log group : List Record) : Type 0 where
  pub first : Record
  pub items : List Record
  pub is : first ∷ items ≡ group
  pub opens : IsOpening first
  pub steps : (begun_steps (first ∷ []) ≡ []) ⊎ BeginsStep s log first

pub opening_of : (s : ScenarioValue) (log group : List Record) → CarriedComesNext s log group → HasOpening s log group
unfolding IsOpening
opening_of s log group comes =
    elim (carried_coming s log group comes) [
      | inl arrives ↦ record { first = Arrived arrives.line.number; items = _; is = arrives.is; opens = tt; steps = inl refl }
      | inr (inl ticks) ↦ record { first = Ticked; items = _; is = ticks.is; opens = tt; steps = inl refl }
      | inr (inr begins) ↦
          let index = begun_count log + 1 in
          let head = begun_head s.settings log index begins.step (first_refusal log begins.step) in
          record {
            first = StepRecord index begins.step;
            items = head.0;
            is = head.1 ∙ begins.is;
            opens = tt;
            steps = inr (record { step = begins.step; is = refl; next = begins.next });
          }
    ]

-- ---- what such a record is

pub opening_begins : (first : Record) → IsOpening first → begins_group true first ≡ true
unfolding IsOpening begins_group
opening_begins (StepRecord index step) opens = refl
opening_begins (Arrived packet) opens = refl
opening_begins Ticked opens = refl
opening_begins first opens = absurd opens

pub opening_sends : (first : Record) → IsOpening first → sent_number first ≡ None
unfolding IsOpening sent_number
opening_sends (StepRecord index step) opens = refl
opening_sends (Arrived packet) opens = refl
opening_sends Ticked opens = refl
opening_sends first opens = absurd opens

pub opening_takes : (first : Record) → IsOpening first → taken_number first ≡ None
unfolding IsOpening taken_number
opening_takes (StepRecord index step) opens = refl
opening_takes (Arrived packet) opens = refl
opening_takes Ticked opens = refl
opening_takes first opens = absurd opens

pub opening_makes : (first : Record) (after : List Record) → IsOpening first → packet_count (first ∷ after) ≡ packet_count after
unfolding IsOpening packet_number
opening_makes (StepRecord index step) after opens = refl
opening_makes (Arrived packet) after opens = refl
opening_makes Ticked after opens = refl
opening_makes first after opens = absurd opens

-- with how many frames may be sent after it, it may end a log
pub opening_ends : (log : List Record) (first : Record) (limit : ℕ) → IsOpening first → MayEnd log (reduced (first ∷ Spent limit ∷ []))
unfolding IsOpening MayEnd is_added
opening_ends log (StepRecord index step) limit opens = tt
opening_ends log (Arrived packet) limit opens = tt
opening_ends log Ticked limit opens = tt
opening_ends log first limit opens = absurd opens

pub opening_prints : (p : SettingsValue) (first : Record) → IsOpening first → CanPrint p first
unfolding IsOpening
opening_prints p (StepRecord index step) opens = (tt, λ h. cc)
opening_prints p (Arrived packet) opens = (tt, λ h. cc)
opening_prints p Ticked opens = (tt, λ h. cc)
opening_prints p first opens = absurd opens
