-- The moves of a run, and its frames: all that were sent and taken, as its log has come to it.
--
-- Rule: docs/FORMATS.md, "The course of a run".
use Rattle.std.specs.Prelude.{◌≡◌, ℕ, List, [], ◌∷◌, ◌++◌, map, Option, None, Some}
use Rattle.std.specs.List.{cons_option, filter_map}
use Rattle.tap_name.specs.Settings.{SettingsValue}
use Rattle.tap_wire.specs.Spelling.{spelling}
use Rattle.tap_log.specs.declared.record.Record.{Record}
use Rattle.tap_log.specs.declared.record.Record.TheVariants.{Begin, Sent}
use Rattle.tap_log.specs.Frames.{bytes_of}
use Rattle.tap_log.specs.Kinds.{taken_number}
use Rattle.tap_history.specs.Groups.{beginning_of, groups_of}
use Rattle.tap_safety.specs.AtRest.{system_at_rest}
use Rattle.tap_safety.specs.Move.{Move}
use Rattle.tap_runs.specs.Course.{move_of_group}
use Rattle.tap_bounds.specs.FewSent.{traffic_of}
use Rattle.tap_bounds.specs.Traffic.{Traffic, no_traffic}

-- ---- the moves of a log

-- the moves that these groups make, one after another, after this log
abbrev pub moves_after : List Record → List (List Record) → List Move
moves_after before [] = []
moves_after before (group ∷ groups) = cons_option (move_of_group before group) (moves_after (before ++ group) groups)

-- the moves that a run has made once its log has come so far
abbrev pub moves_of : List Record → List Move
moves_of log = moves_after (beginning_of log) (groups_of log)

-- ---- the frames of a log

-- all frames that these moves send and take after this beginning
unfoldable pub traffic_from : List Record → List Move → Traffic
traffic_from (Begin settings frames members ∷ []) moves = traffic_of settings (system_at_rest settings members) no_traffic moves
traffic_from other moves = no_traffic

-- all frames that were sent and taken once a log has come so far
abbrev pub traffic_in : List Record → Traffic
traffic_in log = traffic_from (beginning_of log) (moves_of log)

-- the bytes of the frame that a record sends
unfoldable pub bytes_sent : Record → Option (List ℕ)
bytes_sent (Sent number bytes) = Some bytes
bytes_sent other = None

-- These are the frames that the log says were sent and taken: its `Sent` records have the bytes of those sent, one after another, and its
-- `Taken` records the numbers of those taken.
pub record TrafficAgrees (p : SettingsValue) (log : List Record) (r : Traffic) : Type 0 where
  pub sent : filter_map bytes_sent log ≡ map (spelling p) r.sent
  pub taken : map (bytes_of log) (filter_map taken_number log) ≡ map (λ frame. Some (spelling p frame)) r.taken
