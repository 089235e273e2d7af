-- What is said of a carried world's value is said of the world and the carrier that it has.
use Rattle.std.proofs.Common.{◌≡◌, List, Result, ap, sym, subst, ◌∙◌}
use Rattle.tap_scenario.specs.Scenario.{ScenarioValue}
use Rattle.tap_log.specs.declared.record.Record.{Record}
use Rattle.tap_log.specs.Reduced.{reduced}
use Rattle.tap_engine.specs.World.{WorldValue, whole_log}
use Rattle.tap_engine.specs.declared.stop.Stop.{Stop}
use Rattle.tap_carrier.specs.Carrier.{CarrierValue}
use Rattle.tap_carried_world.specs.Adds.{AddsNext}
use Rattle.tap_carried_world.specs.Value.{CarriedValue, CarriesRun}

-- a carried world with this world and this carrier
abbrev pub of_both : WorldValue → CarrierValue → CarriedValue
of_both w c = record { world = w; carrier = c }

module _ (w : WorldValue) (c : CarrierValue) (now : CarriedValue) (view_is : of_both w c ≡ now) where
  pub seen : (P : CarriedValue → Type 0) → P now → P (of_both w c)
  seen P is = subst P (sym view_is) is

  pub carries_both : (s : ScenarioValue) → CarriesRun s now.world now.carrier → CarriesRun s w c
  carries_both s of = seen (λ v. CarriesRun s v.world v.carrier) of

  pub world_is : w ≡ now.world
  world_is = ap (λ v. v.world) view_is

  -- so is what a call adds
  pub adds_seen : (s : ScenarioValue) (given : Result (Unit {0}) Stop) (v : WorldValue) (d : CarrierValue) → AddsNext s w given v d
      → AddsNext s now.world given v d
  adds_seen s given v d adds = subst (λ x. AddsNext s x given v d) world_is adds

-- the log that a world lends tells its plain records
pub plain_of : (w : WorldValue) (records : List Record) → records ≡ whole_log w → reduced records ≡ w.log → reduced (whole_log w) ≡ w.log
plain_of w records is less = ap reduced (sym is) ∙ less
