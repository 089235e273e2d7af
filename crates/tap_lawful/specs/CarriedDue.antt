-- What is due in a carried run: that a packet arrives, or a tick, by what the last step has chosen.
--
-- Rule: docs/FORMATS.md, "What comes next".
use Rattle.std.specs.Prelude.{ℕ, ◌+◌, nat_eq, Bool, true, false, not, ◌&&◌, List, length, fold, slice_get, Option, None, Some, option_and_then}
use Rattle.tap_scenario.specs.declared.step.Step.{Step}
use Rattle.tap_scenario.specs.declared.step.Step.TheVariants.{Settle, SettleNewest, SettleMixed, Tick}
use Rattle.tap_log.specs.declared.record.Record.{Record}
use Rattle.tap_log.specs.declared.record.Record.TheVariants.{Step as StepRecord, Arrived, Ticked, Refused}
use Rattle.tap_history.specs.Moments.{awaiting, is_none, under_way}
use Rattle.tap_packets.specs.Packets.{PacketLine, lines_under_way}
use Rattle.tap_lawful.specs.Due.{place_chosen}

-- ---- the last step

-- the last step that was begun, how many packets have arrived since, how many ticks came since, and whether the step was refused
pub record CarriedChoice : Type 0 where
  pub step : Option Step
  pub arrived : ℕ
  pub ticked : ℕ
  pub refused : Bool

abbrev pub no_choice : CarriedChoice
no_choice = record { step = None; arrived = 0; ticked = 0; refused = false }

-- a step that has just begun
abbrev pub choice_of_step : Step → CarriedChoice
choice_of_step step = record { step = Some step; arrived = 0; ticked = 0; refused = false }

-- after one more record
unfoldable pub choice_after : CarriedChoice → Record → CarriedChoice
choice_after choice (StepRecord index step) = choice_of_step step
choice_after choice (Arrived packet) =
    record { step = choice.step; arrived = choice.arrived + 1; ticked = choice.ticked; refused = choice.refused }
choice_after choice Ticked =
    record { step = choice.step; arrived = choice.arrived; ticked = choice.ticked + 1; refused = choice.refused }
choice_after choice (Refused index refusal) =
    record { step = choice.step; arrived = choice.arrived; ticked = choice.ticked; refused = true }
choice_after choice other = choice

abbrev pub carried_choice : List Record → CarriedChoice
carried_choice log = fold choice_after no_choice log

-- ---- what is due

-- that this packet arrives, or a tick
pub data Due : Type 0 where
  ArrivalDue : PacketLine → Due
  TickDue : Due

-- The packet that arrives next, of those under way: the one at the place that the step chooses, as it would choose among frames. So
-- `deliver` has one packet arrive. A settle has packets arrive until none is under way: that which was made first, or last, or at the place
-- that the mixer draws, where ticks draw nothing.
abbrev pub arrival_chosen : Step → ℕ → List PacketLine → Option PacketLine
arrival_chosen step arrived lines = option_and_then (slice_get lines) (place_chosen step arrived (length lines))

-- no packet is under way, and a frame awaits its acknowledgement
abbrev pub is_stranded : List Record → Bool
is_stranded log = is_none (under_way log) && not (is_none (awaiting log))

-- A tick comes next, if so many came since the step: one after a `tick`, and in a settle whenever frames are stranded.
unfoldable pub tick_chosen : Step → ℕ → Bool → Bool
tick_chosen Tick ticked stranded = nat_eq ticked 0
tick_chosen Settle ticked stranded = stranded
tick_chosen SettleNewest ticked stranded = stranded
tick_chosen (SettleMixed seed) ticked stranded = stranded
tick_chosen other ticked stranded = false

-- that this packet arrives, and if there is none, a tick, if it comes
abbrev pub due_of : Option PacketLine → Bool → Option Due
due_of (Some line) ticks = Some (ArrivalDue line)
due_of None true = Some TickDue
due_of None false = None

-- what a step that isn't refused has happen next
abbrev pub due_by : CarriedChoice → List Record → Step → Option Due
due_by choice log step =
    due_of (arrival_chosen step choice.arrived (lines_under_way log)) (tick_chosen step choice.ticked (is_stranded log))

abbrev pub due_unless : Bool → CarriedChoice → List Record → Option Due
due_unless true choice log = None
due_unless false choice log = option_and_then (due_by choice log) choice.step

-- what is due after these records: nothing if the last step was refused
abbrev pub carried_due : List Record → Option Due
carried_due log = due_unless (carried_choice log).refused (carried_choice log) log
