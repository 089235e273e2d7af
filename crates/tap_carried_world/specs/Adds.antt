-- What a call adds to the log of a carried run: the group that comes next.
--
-- Rule: docs/FORMATS.md, "What comes next" and "The ways a run ends".
use Rattle.std.specs.Prelude.{◌≡◌, true, List, ◌++◌, None, Some, Result, Ok, Err, ◌⊎◌}
use Rattle.tap_scenario.specs.Scenario.{ScenarioValue}
use Rattle.tap_log.specs.declared.record.Record.{Record}
use Rattle.tap_engine.specs.World.{WorldValue, whole_log}
use Rattle.tap_engine.specs.declared.stop.Stop.{Stop}
use Rattle.tap_engine.specs.declared.stop.Stop.TheVariants.{NoMemory, Spent}
use Rattle.tap_lawful.specs.CarriedNext.{carried_next_group}
use Rattle.tap_lawful.specs.CarriedRuns.{IsCarriedCut, IsCarriedSpent}
use Rattle.tap_carrier.specs.Carrier.{CarrierValue}
use Rattle.tap_carried_world.specs.Value.{CarriesRun}

-- the whole group that comes next was added, and the carrier keeps what the log says
pub record HasAdded (s : ScenarioValue) (before after : WorldValue) (c : CarrierValue) : Type 0 where
  pub group : List Record
  pub next : carried_next_group s (whole_log before) ≡ Some group
  pub log : whole_log after ≡ whole_log before ++ group
  pub keeps : CarriesRun s after c

-- with what the world began stays, and no refusal is left to be noted
pub record IsLeft (before after : WorldValue) : Type 0 where
  pub beginning : after.beginning ≡ before.beginning
  pub noted : after.refused ≡ None

-- With the group too many frames would be sent: its first record was added, and that so many may be sent. The world was stopped.
pub record HasSpent (s : ScenarioValue) (before after : WorldValue) : Type 0 where
  pub log : IsCarriedSpent s (whole_log before) (whole_log after)
  pub left : IsLeft before after
  pub stopped : after.stopped ≡ true

-- Memory was refused: some first records of the group were added and not all, or none. If it would send too many frames, the first one at
-- most.
pub record HasLacked (s : ScenarioValue) (before after : WorldValue) : Type 0 where
  pub log : (whole_log after ≡ whole_log before) ⊎ IsCarriedCut s (whole_log before) (whole_log after)
  pub left : IsLeft before after

-- By the answer: the group that comes next was added; or with it too many frames would be sent; or memory was refused. No other answer
-- comes.
abbrev pub AddsNext : ScenarioValue → WorldValue → Result (Unit {0}) Stop → WorldValue → CarrierValue → Type 0
AddsNext s before (Ok done) after c = HasAdded s before after c
AddsNext s before (Err Spent) after c = HasSpent s before after
AddsNext s before (Err NoMemory) after c = HasLacked s before after
AddsNext s before (Err other) after c = ⊥
