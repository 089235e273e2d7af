-- What the parts that a node keeps come to, by its status: its state.
--
-- Rule: docs/PROTOCOL.md, "Nodes".
use Rattle.std.specs.Prelude.{ℕ, List}
use Rattle.tap_name.specs.Settings.{SettingsValue}
use Rattle.tap_session.specs.Session.{SessionsValue}
use Rattle.tap_table.specs.Ties.{TiesValue}
use Rattle.tap_pointer.specs.Pointers.{PointersValue}
use Rattle.tap_rule.specs.Node.{NodeState, Status, joiner}
use Rattle.tap_rule.specs.Node.Status.{Core, Leaving}
use Rattle.tap_node_common.specs.declared.parts.NodeParts.{NodeParts}

-- a node of this status, with these ties and parts
abbrev pub state_of_parts : Status → TiesValue → NodeParts → NodeState
state_of_parts status ties parts = record (joiner ties.table.settings ties.table.owner) {
  status = status;
  ties = ties;
  stamp = parts.stamp;
  sessions = parts.sessions;
  covers = parts.covers;
  pointers = parts.pointers;
  casts = parts.casts;
  cast_sessions = parts.cast_sessions;
  cast_numbers = parts.cast_numbers.items;
}

-- a core node with these ties and parts
abbrev pub core_state_of : TiesValue → NodeParts → NodeState
core_state_of ties parts = state_of_parts Core ties parts

-- a node that leaves, and awaits these holders
abbrev pub leaving_state_of : TiesValue → List (List ℕ) → NodeParts → NodeState
leaving_state_of ties awaited parts = record (state_of_parts Leaving ties parts) { awaited = awaited }

-- a core node with these ties, the last number of its stamp, its sessions of joins and its pointers, that covers nobody and has
-- met no cast
abbrev pub newly_core : TiesValue → ℕ → SessionsValue → PointersValue → NodeState
newly_core ties stamp sessions pointers = record (joiner ties.table.settings ties.table.owner) {
  status = Core;
  ties = ties;
  stamp = stamp;
  sessions = sessions;
  pointers = pointers;
}

-- a node of this name that has ended, and has these sessions left
abbrev pub ended_state : Status → SettingsValue → List ℕ → SessionsValue → NodeState
ended_state status p name sessions = record (joiner p name) { status = status; sessions = sessions }
