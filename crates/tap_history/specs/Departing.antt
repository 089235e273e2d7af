-- Which node is departing at a moment of a log.
use Rattle.std.specs.Prelude.{ℕ, Bool, ◌&&◌, List, length, take, drop, filter, Option, None, unwrap_or}
use Rattle.std.specs.List.{filter_map, last_or, range_with_len}
use Rattle.tap_log.specs.declared.record.Record.{Record}
use Rattle.tap_log.specs.Kinds.{is_carried}
use Rattle.tap_history.specs.StepAsks.{depart_name}
use Rattle.tap_history.specs.Moments.{is_moment, is_still}
use Rattle.tap_history.specs.Core.{accepted_in}

-- so many records are a moment at which no frame is outstanding
abbrev pub is_still_moment : List Record → ℕ → Bool
is_still_moment log m = is_moment log m && is_still (take m log)

-- the moments, up to the end of the log, at which no frame is outstanding
abbrev pub still_moments : List Record → List ℕ
still_moments log = filter (is_still_moment log) (range_with_len 1 (length log))

-- the last moment at which no frame is outstanding, 0 if there is none
abbrev pub last_still : List Record → ℕ
last_still log = unwrap_or (last_or None (still_moments log)) 0

-- The node that is departing: the last one whose departure was accepted since the last moment at which no frame was outstanding.
abbrev pub departing_of : List Record → Option (List ℕ)
departing_of log = last_or None (filter_map depart_name (accepted_in (is_carried log) (drop (last_still log) log)))
