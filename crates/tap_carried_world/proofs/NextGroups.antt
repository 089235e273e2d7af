-- Which group comes next, by what is due and by the step that begins.
use Rattle.std.proofs.Common.{◌≡◌, ℕ, ◌+◌, Bool, true, false, List, [], ◌∷◌, Option, None, Some, ap, sym, ◌∙◌}
use Rattle.std.specs.Prelude.{slice_get}
use Rattle.std.specs.Option.{option_map}
use Rattle.tap_name.specs.Settings.{SettingsValue}
use Rattle.tap_scenario.specs.Scenario.{ScenarioValue}
use Rattle.tap_scenario.specs.declared.step.Step.{Step}
use Rattle.tap_scenario.specs.declared.step.Step.TheVariants.{Lose, Repeat}
use Rattle.tap_log.specs.declared.record.Record.{Record}
use Rattle.tap_log.specs.declared.record.Record.TheVariants.{Arrived, Refused, Step as StepRecord}
use Rattle.tap_log.specs.declared.record.Refusal.{Refusal}
use Rattle.tap_history.specs.Moments.{has_number, outstanding}
use Rattle.tap_history.specs.Refusals.{first_refusal}
use Rattle.tap_packets.specs.Groups.{arrival_records, carried_step_group, lose_group, repeat_group, tick_group}
use Rattle.tap_packets.specs.Packets.{PacketLine, lines_under_way}
use Rattle.tap_runs.specs.Course.{is_choice}
use Rattle.tap_lawful.specs.CarriedDue.{carried_due}
use Rattle.tap_lawful.specs.CarriedDue.Due.{ArrivalDue, TickDue}
use Rattle.tap_lawful.specs.CarriedNext.{accepted_group, begun_group, carried_group_after, carried_next_group, choice_group, group_unless, losing_group, reduced_step_records, reduced_taken_records, repeating_group}
use Rattle.tap_lawful.specs.Next.{begun_count, next_step}

module _ (s : ScenarioValue) (log : List Record) where
  -- ---- what is due

  pub tick_next : carried_due log ≡ Some TickDue → carried_next_group s log ≡ Some (tick_group log)
  tick_next due = ap (carried_group_after s log) due

  pub arrival_next : (line : PacketLine) (ack waits : Bool) → carried_due log ≡ Some (ArrivalDue line) → line.ack ≡ ack
      → has_number (outstanding log) line.frame ≡ waits → carried_next_group s log
      ≡ Some (Arrived line.number ∷ arrival_records log line (reduced_taken_records s.settings log line.frame) ack waits)
  arrival_next line ack waits due acks is =
      let items = reduced_taken_records s.settings log line.frame in
      ap (carried_group_after s log) due
      ∙ ap (λ a. Some (Arrived line.number ∷ arrival_records log line items a (has_number (outstanding log) line.frame))) acks
      ∙ ap (λ b. Some (Arrived line.number ∷ arrival_records log line items ack b)) is

  -- ---- the step that begins

  module _ (index : ℕ) (step : Step) (none : carried_due log ≡ None) (step_is : next_step s log ≡ Some step)
      (index_is : index ≡ begun_count log + 1) where
    begun_next : (refusal : Option Refusal) → first_refusal log step ≡ refusal
        → carried_next_group s log ≡ Some (group_unless s.settings log index step refusal)
    begun_next refusal is =
        ap (carried_group_after s log) none
        ∙ ap (option_map (begun_group s.settings log (begun_count log + 1))) step_is
        ∙ ap (λ i. Some (begun_group s.settings log i step)) (sym index_is)
        ∙ ap (λ r. Some (group_unless s.settings log index step r)) is

    pub refused_next : (refusal : Refusal) → first_refusal log step ≡ Some refusal
        → carried_next_group s log ≡ Some (StepRecord index step ∷ Refused index refusal ∷ [])
    refused_next refusal is = begun_next (Some refusal) is

    accepted_next : (choice : Bool) → is_choice step ≡ choice → first_refusal log step ≡ None
        → carried_next_group s log ≡ Some (accepted_group choice s.settings log index step)
    accepted_next choice chooses accepted =
        begun_next None accepted ∙ ap (λ b. Some (accepted_group b s.settings log index step)) chooses

    -- of a start or an observation
    pub acted_next : is_choice step ≡ false → first_refusal log step ≡ None
        → carried_next_group s log ≡ Some (carried_step_group log index step (reduced_step_records s.settings log index step))
    acted_next acts accepted = accepted_next false acts accepted

    -- of a choice
    pub choice_next : is_choice step ≡ true → first_refusal log step ≡ None
        → carried_next_group s log ≡ Some (choice_group s.settings log index step)
    choice_next chooses accepted = accepted_next true chooses accepted

-- ---- choices

pub lose_chosen : (p : SettingsValue) (log : List Record) (index place : ℕ) (line : PacketLine) → slice_get (lines_under_way log) place ≡ Some line
    → choice_group p log index (Lose place) ≡ lose_group index place line
unfolding choice_group
lose_chosen p log index place line there = ap (losing_group index place) there

pub repeat_chosen : (p : SettingsValue) (log : List Record) (index place : ℕ) (line : PacketLine) → slice_get (lines_under_way log) place ≡ Some line
    → choice_group p log index (Repeat place) ≡ repeat_group log index place line
unfolding choice_group
repeat_chosen p log index place line there = ap (repeating_group log index place) there
