-- The laws of carried runs on which the calls rest.
use Rattle.std.proofs.Common.{inl, get_or, refl}
use Rattle.tap_name.specs.Settings.{SettingsValue}
use Rattle.tap_log.specs.declared.record.Record.{Record}
use Rattle.tap_log.specs.declared.record.Record.TheVariants.{Sent}
use Rattle.tap_lawful.proofs.CarriedGrowth.{carried_all, carried_indices, carried_more, carried_starts}
use Rattle.tap_lawful.proofs.CarriedReduction.{carried_runs_reduce}
use Rattle.tap_lawful.proofs.CarriedRunMoves.{carried_groups_move}
use Rattle.tap_headline.specs.Runs.{HasReadHead}
use Rattle.tap_headline.proofs.Runs.{carried_heads}
use Rattle.tap_carrier.specs.Sending.{HasHead}
use Rattle.tap_carried_world.proofs.RunLogs.{Laws}

-- a head that is read is read
read_head : (p : SettingsValue) (item : Record) → HasReadHead p item → HasHead p item
unfolding HasHead
read_head p (Sent number bytes) is = is
read_head p item is = tt

pub laws : Laws
laws = record {
  reduce = carried_runs_reduce;
  moves = carried_groups_move;
  starts = carried_starts;
  more = λ s log group script played next within. carried_more s log group script played next within;
  indices = λ s log script played. carried_indices s log script played;
  all = λ s log script played none. carried_all s log script played none;
  heads = λ s log script played k d within.
      read_head s.settings (get_or log k d)
      (carried_heads s log script (record { played = log; is_played = played; ending = inl refl }) k d within);
}
