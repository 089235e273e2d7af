-- What contracts see of a world.
--
-- Rule: docs/FORMATS.md, "The course of a run".
use Rattle.std.specs.Prelude.{◌≡◌, ℕ, Bool, false, if◌then◌else◌, List, [], ◌∷◌, Option, None}
use Rattle.std.specs.Option.{option_map}
use Rattle.tap_log.specs.declared.record.Record.{Record}
use Rattle.tap_log.specs.declared.record.Refusal.{Refusal}
use Rattle.tap_history.specs.Names.{names_of}
use Rattle.tap_name.specs.Names.{has_name}
use Rattle.tap_ledger.specs.Woven.{Remark, woven}
use Rattle.tap_node.specs.Node.{NodeValue, running}
use Rattle.tap_overlay.specs.Overlay.{node_among}
use Rattle.tap_safety.specs.AtRest.{system_at_rest}
use Rattle.tap_safety.specs.System.{System}
use Rattle.tap_runs.specs.Beginning.{Beginning, begin_record}
use Rattle.tap_runs.specs.Course.{system_of}

-- With what its log begins; the log, which is of plain records; what only a carrier tells, each record with how many plain ones stand
-- before it; the refusal that isn't noted yet; whether it was stopped, by want of memory or since more frames would have been sent than
-- may be; and the nodes, each under its name, ascending.
pub record WorldValue : Type 0 where
  pub beginning : Beginning
  pub log : List Record
  pub added : List Remark
  pub refused : Option Refusal
  pub stopped : Bool
  pub nodes : List (List ℕ × NodeValue)

-- its whole log: the plain records, and each remark after as many of them as it says
abbrev pub whole_log : WorldValue → List Record
whole_log w = woven w.log w.added

-- the node of a name that was ever present
abbrev pub node_of : WorldValue → List ℕ → Option NodeValue
node_of w name = if has_name (names_of w.log) name then node_among w.nodes name else None

-- the nodes of a system, each of which takes steps
abbrev pub nodes_running : System → List ℕ → Option NodeValue
nodes_running s name = option_map running (s.node name)

-- the nodes of the world are those of the system that its log has come to
abbrev pub HasNodesOfLog : WorldValue → Type 0
HasNodesOfLog w = (name : List ℕ) → node_of w name ≡ nodes_running (system_of w.log) name

-- a world that has just begun so: each member is there at rest, and nobody else
pub record HasBegun (b : Beginning) (w : WorldValue) : Type 0 where
  pub beginning : w.beginning ≡ b
  pub log : w.log ≡ begin_record b ∷ []
  pub added : w.added ≡ []
  pub refused : w.refused ≡ None
  pub goes_on : w.stopped ≡ false
  pub members : (name : List ℕ) → node_of w name ≡ nodes_running (system_at_rest b.settings b.members) name
