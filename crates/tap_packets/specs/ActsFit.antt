-- What nodes do by the reduced log fits the whole one.
use Rattle.std.specs.Prelude.{◌≡◌, ℕ, false, List, All}
use Rattle.std.specs.List.{range_with_len}
use Rattle.tap_name.specs.Settings.{SettingsValue}
use Rattle.tap_log.specs.declared.record.Record.{Record}
use Rattle.tap_log.specs.Counts.{sent_count}
use Rattle.tap_log.specs.Kinds.{begins_group}
use Rattle.tap_log.specs.Reduced.{is_added, reduced}
use Rattle.tap_history.specs.Moments.{outstanding}
use Rattle.tap_rule.specs.Event.{Acted}
use Rattle.tap_runs.specs.Acts.{acted_records}
use Rattle.tap_packets.specs.Groups.{AreActed}
use Rattle.tap_packets.specs.Packets.{frames_sent, frames_taken}

-- The frames of a log are those of its reduced log. What a log says of what a node did by the reduced one may stand in the whole one, and
-- so may all records that aren't the carrier's, begin no group, and number the frames on that they send.
pub record ActsFit : Type 0 where
  pub sent : (log : List Record) → frames_sent (reduced log) ≡ frames_sent log
  pub taken : (log : List Record) → frames_taken (reduced log) ≡ frames_taken log
  pub waiting : (log : List Record) → outstanding (reduced log) ≡ outstanding log
  pub acted : (settings : SettingsValue) (log : List Record) (name : List ℕ) (acted : Acted)
      → AreActed log (acted_records settings (sent_count (reduced log)) name acted)
  pub plain : (log items : List Record) → All (λ item. is_added item ≡ false) items → All (λ item. begins_group false item ≡ false) items
      → frames_sent items ≡ range_with_len (sent_count (reduced log)) (sent_count items) → AreActed log items
