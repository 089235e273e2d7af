-- What a player of a carried run has chosen, of the packets that arrive next and of ticks.
--
-- Rule: docs/FORMATS.md, "What comes next".
use Rattle.std.specs.Prelude.{◌≡◌, true, false, None, Some}
use Rattle.tap_scenario.specs.declared.step.Step.{Step}
use Rattle.tap_lawful.specs.CarriedDue.{CarriedChoice}
use Rattle.tap_lawful.specs.Due.{Chosen}
use Rattle.tap_replay.specs.Choice.{IsChoiceOf}
use Rattle.tap_replay.specs.Ticks.{AreTicksOf}
use Rattle.tap_replay.specs.declared.choice.Choice.{Choice}
use Rattle.tap_replay.specs.declared.choice.Choice.TheVariants.{Nothing}
use Rattle.tap_replay.specs.declared.ticks.Ticks.{Ticks}
use Rattle.tap_replay.specs.declared.ticks.Ticks.TheVariants.{Never}

-- of the packets that arrive next a step chooses as of frames that are taken next
abbrev pub as_chosen : CarriedChoice → Chosen
as_chosen c = record { step = c.step; taken = c.arrived }

-- The choice and the ticks are those of the last step, after what has come since: nothing if it was refused.
pub record AreChosen (c : CarriedChoice) (choice : Choice) (ticks : Ticks) : Type 0 where
  pub refused : c.refused ≡ true → (choice ≡ Nothing) × (ticks ≡ Never)
  pub chosen : c.refused ≡ false → IsChoiceOf (as_chosen c) choice
  pub none : c.step ≡ None → ticks ≡ Never
  pub ticked : (step : Step) → c.step ≡ Some step → c.refused ≡ false → AreTicksOf step c.ticked ticks
