-- How far the numbers of a run rise: those of the sessions of a node, its stamp, and those of casts.
--
-- Rule: docs/FORMATS.md, "The course of a run".
use Rattle.std.specs.Prelude.{◌≡◌, ℕ, ◌<◌, ◌≤◌, true, List, None}
use Rattle.tap_cast.specs.Casts.{level_of_cast}
use Rattle.tap_log.specs.declared.record.Record.{Record}
use Rattle.tap_session.specs.Session.{most_sessions}
use Rattle.tap_rule.specs.Node.{NodeState}
use Rattle.tap_node_common.specs.SoundNode.{has_numbers_left, join_sessions_limit}
use Rattle.tap_runs.specs.Starts.{next_cast}

-- how many sessions of joins, and of casts, a node may open in a run, and what its stamp stays below
abbrev pub most_join_sessions : ℕ
most_join_sessions = join_sessions_limit

abbrev pub most_cast_sessions : ℕ
most_cast_sessions = most_sessions

abbrev pub stamp_end : ℕ
stamp_end = 3000000

-- after so many steps of a run, which are far more than a scenario has, each node still has room for one more
abbrev pub steps_with_room : ℕ
steps_with_room = 9000000

-- the numbers of the node are in range: its sessions are numbered from 1 on, in the order in which they are opened
pub record IsInRange (node : NodeState) : Type 0 where
  pub sessions : node.sessions.opened ≤ most_join_sessions
  pub cast_sessions : node.cast_sessions.opened ≤ most_cast_sessions
  pub stamp : node.stamp < stamp_end

-- numbers are left at the node for one more step
abbrev pub HasNumbersLeft : NodeState → Type 0
HasNumbersLeft node = has_numbers_left node ≡ true

-- the cast that begins next, after this log, is one that the node hasn't met
abbrev pub HasNotMetNext : List Record → NodeState → Type 0
HasNotMetNext log node = level_of_cast node.casts (next_cast log) ≡ None
