-- The group that comes next in a carried run is that of what is due, or of the next step.
-- Cited above: begun_head, carried_coming, CarriedBegins
use Rattle.std.proofs.Common.{◌≡◌, ◌⊎◌, inl, inr, ℕ, ◌+◌, Bool, true, false, List, [], ◌∷◌, ◌++◌, Option, None, Some, refl}
use Rattle.std.specs.Prelude.{slice_get}
use Rattle.tap_name.specs.Settings.{SettingsValue}
use Rattle.tap_scenario.specs.declared.step.Step.{Step}
use Rattle.tap_scenario.specs.declared.step.Step.TheVariants.{Lose, Repeat, RootSet}
use Rattle.tap_scenario.specs.Scenario.{ScenarioValue}
use Rattle.tap_scenario.proofs.Options.{option_map-back}
use Rattle.tap_log.specs.declared.record.Record.{Record}
use Rattle.tap_log.specs.declared.record.Record.TheVariants.{Step as StepRecord, Lost, Refused}
use Rattle.tap_log.specs.declared.record.Refusal.{Refusal}
use Rattle.tap_packets.specs.Groups.{arrival_group, copied_line, data_packets, tick_group}
use Rattle.tap_packets.specs.Packets.{PacketLine, frames_sent, lines_under_way, packet_record}
use Rattle.tap_runs.specs.Course.{is_choice}
use Rattle.tap_lawful.specs.CarriedDue.{Due, carried_due}
use Rattle.tap_lawful.specs.CarriedDue.Due.{ArrivalDue, TickDue}
use Rattle.tap_lawful.specs.CarriedNext.{accepted_group, begun_group, carried_group_after, choice_group, group_unless, losing_group, reduced_step_records, reduced_taken_records, repeating_group}
use Rattle.tap_lawful.specs.CarriedRuns.{CarriedComesNext}
use Rattle.tap_lawful.specs.Next.{begun_count, next_step}
use Rattle.tap_lawful.specs.RootSets.{roots_record}

-- the packet that is due arrives
pub record ArrivesDue (s : ScenarioValue) (log group : List Record) : Type 0 where
  pub line : PacketLine
  pub due : carried_due log ≡ Some (ArrivalDue line)
  pub is : arrival_group log line (reduced_taken_records s.settings log line.frame) ≡ group

-- a tick is due
pub record TicksDue (log group : List Record) : Type 0 where
  pub due : carried_due log ≡ Some TickDue
  pub is : tick_group log ≡ group

-- nothing is due, and the next step begins
pub record CarriedBegins (s : ScenarioValue) (log group : List Record) : Type 0 where
  pub step : Step
  pub none : carried_due log ≡ None
  pub next : next_step s log ≡ Some step
  pub is : begun_group s.settings log (begun_count log + 1) step ≡ group

pub carried_coming : (s : ScenarioValue) (log group : List Record) → CarriedComesNext s log group
    → ArrivesDue s log group ⊎ (TicksDue log group ⊎ CarriedBegins s log group)
carried_coming s log group comes = by_due (carried_due log) refl comes
  where
    by_due : (due : Option Due) → carried_due log ≡ due → carried_group_after s log due ≡ Some group
        → ArrivesDue s log group ⊎ (TicksDue log group ⊎ CarriedBegins s log group)
    by_due (Some (ArrivalDue line)) is comes =
        let same : arrival_group log line (reduced_taken_records s.settings log line.frame) ≡ group = cc in
        inl (record { line = line; due = is; is = same })
    by_due (Some TickDue) is comes = let same : tick_group log ≡ group = cc in inr (inl (record { due = is; is = same }))
    by_due None is comes =
        let back = option_map-back (begun_group s.settings log (begun_count log + 1)) (next_step s log) group comes in
        inr (inr (record { step = back.0; none = is; next = back.1; is = back.2 }))

-- ---- the group of a step begins with it

-- a group that begins with this record
abbrev BeginsWith : Record → List Record → Type 0
BeginsWith first group = (items : List Record) × (first ∷ items ≡ group)

losing_head : (index place : ℕ) (line : Option PacketLine) → BeginsWith (StepRecord index (Lose place)) (losing_group index place line)
losing_head index place None = ([], refl)
losing_head index place (Some line) = (Lost line.number ∷ [], refl)

repeating_head : (log : List Record) (index place : ℕ) (line : Option PacketLine)
    → BeginsWith (StepRecord index (Repeat place)) (repeating_group log index place line)
repeating_head log index place None = ([], refl)
repeating_head log index place (Some line) = (packet_record (copied_line log line) ∷ [], refl)

choice_head : (p : SettingsValue) (log : List Record) (index : ℕ) (step : Step) → BeginsWith (StepRecord index step) (choice_group p log index step)
unfolding choice_group
choice_head p log index (Lose place) = losing_head index place (slice_get (lines_under_way log) place)
choice_head p log index (Repeat place) = repeating_head log index place (slice_get (lines_under_way log) place)
choice_head p log index (RootSet object asker) = (roots_record p log object asker ∷ [], refl)
choice_head p log index step = ([], refl)

accepted_head : (p : SettingsValue) (log : List Record) (index : ℕ) (step : Step) (choice : Bool)
    → BeginsWith (StepRecord index step) (accepted_group choice p log index step)
accepted_head p log index step true = choice_head p log index step
accepted_head p log index step false =
    let done = reduced_step_records p log index step in (done ++ data_packets log (frames_sent done), refl)

pub begun_head : (p : SettingsValue) (log : List Record) (index : ℕ) (step : Step) (refusal : Option Refusal)
    → (items : List Record) × (StepRecord index step ∷ items ≡ group_unless p log index step refusal)
begun_head p log index step (Some refusal) = (Refused index refusal ∷ [], refl)
begun_head p log index step None = accepted_head p log index step (is_choice step)
