-- What comes next in a carried run, as the calls ask for it.
--
-- Rule: docs/FORMATS.md, "What comes next".
use Rattle.std.specs.Prelude.{◌≡◌, ℕ, ◌+◌, slice_get, None, Some}
use Rattle.tap_scenario.specs.declared.step.Step.{Step}
use Rattle.tap_scenario.specs.Scenario.{ScenarioValue}
use Rattle.tap_engine.specs.World.{WorldValue, whole_log}
use Rattle.tap_packets.specs.Packets.{PacketLine, lines_under_way}
use Rattle.tap_lawful.specs.CarriedDue.{carried_due}
use Rattle.tap_lawful.specs.CarriedDue.Due.{ArrivalDue, TickDue}
use Rattle.tap_lawful.specs.Next.{begun_count, next_step}

-- nothing is due, and the step with this index begins next
pub record BeginsNext (s : ScenarioValue) (w : WorldValue) (index : ℕ) (step : Step) : Type 0 where
  pub none : carried_due (whole_log w) ≡ None
  pub step_is : next_step s (whole_log w) ≡ Some step
  pub index_is : index ≡ begun_count (whole_log w) + 1

-- the packet at this place of those under way arrives next
pub record ArrivesNext (w : WorldValue) (place : ℕ) : Type 0 where
  pub line : PacketLine
  pub there : slice_get (lines_under_way (whole_log w)) place ≡ Some line
  pub due : carried_due (whole_log w) ≡ Some (ArrivalDue line)

-- a tick comes next
abbrev pub TicksNext : WorldValue → Type 0
TicksNext w = carried_due (whole_log w) ≡ Some TickDue
