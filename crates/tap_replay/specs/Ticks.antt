-- What a player has chosen of the ticks that come next.
--
-- Rule: docs/FORMATS.md, "What comes next".
use Rattle.std.specs.Prelude.{◌≡◌, ℕ, Bool, true, false}
use Rattle.tap_scenario.specs.declared.step.Step.{Step}
use Rattle.tap_lawful.specs.CarriedDue.{tick_chosen}
use Rattle.tap_replay.specs.declared.ticks.Ticks.{Ticks}
use Rattle.tap_replay.specs.declared.ticks.Ticks.TheVariants.{Never, Once, WhileStranded}

-- whether a tick comes next, by whether frames are stranded
abbrev pub due_by_ticks : Ticks → Bool → Bool
due_by_ticks Never stranded = false
due_by_ticks Once stranded = true
due_by_ticks WhileStranded stranded = stranded

-- what is left after a tick
abbrev pub ticks_left : Ticks → Ticks
ticks_left Never = Never
ticks_left Once = Never
ticks_left WhileStranded = WhileStranded

-- these are the ticks of the step, if so many came since it
abbrev pub AreTicksOf : Step → ℕ → Ticks → Type 0
AreTicksOf step ticked ticks = (stranded : Bool) → tick_chosen step ticked stranded ≡ due_by_ticks ticks stranded
