-- What a player has chosen of the frames that are taken next.
--
-- Rule: docs/FORMATS.md, "What comes next".
use Rattle.std.specs.Prelude.{◌≡◌, ℕ, ◌+◌, None, Some}
use Rattle.tap_scenario.specs.declared.step.Step.{Step}
use Rattle.tap_scenario.specs.declared.step.Step.TheVariants.{Deliver, Settle, SettleNewest, SettleMixed}
use Rattle.tap_make.specs.Mixer.{state_after}
use Rattle.tap_lawful.specs.Due.{Chosen, place_by}
use Rattle.tap_replay.specs.declared.choice.Choice.{Choice}
use Rattle.tap_replay.specs.declared.choice.Choice.TheVariants.{Nothing, Place, Oldest, Newest, Mixed}

-- the step has just begun
abbrev pub begun_by : Step → Chosen
begun_by step = record { step = Some step; taken = 0 }

-- one more frame was taken
abbrev pub one_more_taken : Chosen → Chosen
one_more_taken chosen = record { step = chosen.step; taken = chosen.taken + 1 }

-- the choice is that of the last step, after so many frames that were taken since
abbrev pub IsChoiceOf : Chosen → Choice → Type 0
IsChoiceOf chosen Nothing = (count : ℕ) → place_by chosen count ≡ None
IsChoiceOf chosen (Place place) = chosen ≡ begun_by (Deliver place)
IsChoiceOf chosen Oldest = chosen.step ≡ Some Settle
IsChoiceOf chosen Newest = chosen.step ≡ Some SettleNewest
IsChoiceOf chosen (Mixed state) = (seed : ℕ) × (chosen.step ≡ Some (SettleMixed seed)) × (state ≡ state_after seed chosen.taken)
