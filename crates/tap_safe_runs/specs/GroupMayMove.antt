-- The move that a group of a course makes is possible.
--
-- Rule: docs/FORMATS.md, "The course of a run".
use Rattle.std.specs.Prelude.{◌≡◌, false, List, Some}
use Rattle.tap_log.specs.declared.record.Record.{Record}
use Rattle.tap_history.specs.Groups.{is_ended}
use Rattle.tap_safety.specs.Invariant.{Basis}
use Rattle.tap_safety.specs.Move.{Move, may_move}
use Rattle.tap_runs.specs.Beginning.{Beginning}
use Rattle.tap_runs.specs.Named.{HaveNames}
use Rattle.tap_runs.specs.Course.{Follows, IsCourse, move_of_group, system_of}

-- If the basis of the invariant holds of the system of a course that hasn't ended, then the move of a group that may follow, if it makes
-- one, is possible.
abbrev pub GroupMayMove : Type 0
GroupMayMove = (b : Beginning) (log group : List Record) (move : Move) → IsCourse b log → is_ended log ≡ false
    → Basis b.settings (system_of log) → Follows b log group → HaveNames b.settings group
    → move_of_group log group ≡ Some move → may_move b.settings (system_of log) move
