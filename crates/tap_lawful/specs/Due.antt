-- Which outstanding frame is taken next, by what the last step has chosen.
--
-- Rule: docs/FORMATS.md, "What comes next".
use Rattle.std.specs.Prelude.{ℕ, ◌+◌, ◌-◌, ◌%◌, nat_eq, nat_lt, if◌then◌else◌, List, length, fold, slice_get, Option, None, Some, option_and_then}
use Rattle.tap_scenario.specs.declared.step.Step.{Step}
use Rattle.tap_scenario.specs.declared.step.Step.TheVariants.{Deliver, Settle, SettleNewest, SettleMixed}
use Rattle.tap_make.specs.Mixer.{drawn}
use Rattle.tap_log.specs.declared.record.Record.{Record}
use Rattle.tap_log.specs.declared.record.Record.TheVariants.{Step as StepRecord, Taken}
use Rattle.tap_history.specs.Moments.{outstanding}

-- ---- the last step

-- the last step that was begun, and how many frames were taken since
pub record Chosen : Type 0 where
  pub step : Option Step
  pub taken : ℕ

abbrev pub nothing_chosen : Chosen
nothing_chosen = record { step = None; taken = 0 }

-- after one more record
unfoldable pub chosen_after : Chosen → Record → Chosen
chosen_after chosen (StepRecord index step) = record { step = Some step; taken = 0 }
chosen_after chosen (Taken number) = record { step = chosen.step; taken = chosen.taken + 1 }
chosen_after chosen other = chosen

abbrev pub chosen_in : List Record → Chosen
chosen_in log = fold chosen_after nothing_chosen log

-- ---- the frame that is due

-- the place, if there is one of so many
abbrev pub place_below : ℕ → ℕ → Option ℕ
place_below count place = if nat_lt place count then Some place else None

-- The place of the frame that a step has taken next, if so many were taken since it and so many are outstanding. `deliver` takes one
-- frame. A settle takes frames until none is outstanding: that which was sent first, or last, or at the place that the mixer draws.
unfoldable pub place_chosen : Step → ℕ → ℕ → Option ℕ
place_chosen (Deliver place) taken count = if nat_eq taken 0 then place_below count place else None
place_chosen Settle taken count = place_below count 0
place_chosen SettleNewest taken count = place_below count (count - 1)
place_chosen (SettleMixed seed) taken count = place_below count (drawn seed taken % count)
place_chosen other taken count = None

abbrev pub place_by : Chosen → ℕ → Option ℕ
place_by chosen count = option_and_then (λ step. place_chosen step chosen.taken count) chosen.step

-- the place of the frame that is due after these records, and its number
abbrev pub place_due : List Record → Option ℕ
place_due log = place_by (chosen_in log) (length (outstanding log))

abbrev pub number_due : List Record → Option ℕ
number_due log = option_and_then (slice_get (outstanding log)) (place_due log)
