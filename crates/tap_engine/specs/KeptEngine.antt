-- What a world keeps: its log, with room for more, and its nodes, which are those of the system that the log has come to.
--
-- Rule: docs/FORMATS.md, "The course of a run" and docs/DECISIONS.md, "The logs of a run".
use Rattle.std.specs.Prelude.{◌≡◌, ◌≢◌, ◌≤◌, ℕ, ◌+◌, Bool, true, false, if◌then◌else◌, List, is_some, Option, None, Some, Result, Err, option_and_then}
use Rattle.tap_name.specs.Names.{has_name}
use Rattle.tap_log.specs.declared.record.Record.{Record}
use Rattle.tap_log.specs.declared.record.Record.TheVariants.{Step as StepRecord}
use Rattle.tap_log.specs.declared.record.Refusal.{Refusal}
use Rattle.tap_log.specs.Log.{last_of}
use Rattle.tap_history.specs.Core.{members_of}
use Rattle.tap_history.specs.Names.{names_of}
use Rattle.tap_surrogate.specs.Nodes.{Nodes}
use Rattle.tap_node.specs.Node.{table_lent}
use Rattle.tap_runs.specs.Course.{system_of}
use Rattle.tap_overlay.specs.Law.{HasNodesOf}
use Rattle.tap_overlay.specs.Overlay.{is_core_value, node_at}
use Rattle.tap_runs.specs.Named.{HaveNames}
use Rattle.tap_ledger.specs.Woven.{Remark}
use Rattle.tap_engine.specs.Kinds.{awaits_roots, is_finished}
use Rattle.tap_engine.specs.Outcome.{WorldOutcome}
use Rattle.tap_engine.specs.World.{WorldValue, node_of}
use Rattle.tap_engine.specs.WorldLog.{IsWorldLog}
use Rattle.tap_engine.specs.declared.engine.Engine.{Engine}
use Rattle.tap_engine.specs.declared.stop.Stop.{Stop}
use Rattle.tap_engine.specs.declared.stop.Stop.TheVariants.{NoMemory, Refused}

-- ---- the value

-- what contracts see of a world with this engine, this refusal that isn't noted yet, and that was stopped or not
abbrev pub world_value : Engine → Option Refusal → Bool → WorldValue
world_value engine refused stopped = record {
  beginning = record { settings = engine.settings; frames = engine.frames; members = members_of engine.ledger.records };
  log = engine.ledger.records;
  added = engine.ledger.added;
  refused = refused;
  stopped = stopped;
  nodes = engine.overlay.nodes;
}

-- the nodes as a walk reads them: the table that each lends, and whether it is core
abbrev pub world_nodes_lent : WorldValue → Nodes
world_nodes_lent w = record { table_of = λ name. option_and_then table_lent (node_of w name); core = λ name. is_core_value (node_of w name) }

-- ---- what is kept

-- for how many records there is always room: how the log ends, and after a step its refusal
unfoldable pub room_of_record : Record → ℕ
room_of_record (StepRecord index step) = 2
room_of_record other = 1

abbrev pub room_kept : Option Record → ℕ
room_kept None = 1
room_kept (Some item) = room_of_record item

-- For how many more there is room if a step asks for roots, until a remark stands after it: for the roots.
abbrev pub room_of_roots : List Record → List Remark → ℕ
room_of_roots log added = if awaits_roots log added then 1 else 0

-- The engine goes on: the nodes are those of the system that the log has come to, of the names that were ever present, and there is room
-- unless the log has its end.
pub record EngineGoesOn (engine : Engine) : Type 0 where
  pub nodes : HasNodesOf (system_of engine.ledger.records) engine.overlay
  pub ever : (name : List ℕ) → has_name (names_of engine.ledger.records) name ≡ is_some ((system_of engine.ledger.records).node name)
  pub room : is_finished engine.ledger.records ≡ false
      → room_kept (last_of engine.ledger.records) + room_of_roots engine.ledger.records engine.ledger.added ≤ engine.ledger.spare

-- The engine of a world: the log is a world's, the names of its steps are of the settings, and there is a node of each name that was ever
-- present. Unless the world was stopped, the engine goes on.
pub record AreKept (engine : Engine) (refused : Option Refusal) (stopped : Bool) : Type 0 where
  pub log : IsWorldLog (world_value engine refused stopped)
  pub named : HaveNames engine.settings engine.ledger.records
  pub settings : engine.overlay.settings ≡ engine.settings
  pub present : (name : List ℕ) → has_name (names_of engine.ledger.records) name ≡ true → is_some (node_at engine.overlay name) ≡ true
  pub go_on : stopped ≡ false → EngineGoesOn engine

-- the engine of a world that may go on: it wasn't stopped, no refusal is to be noted, and the log hasn't its end
pub record AreReady (engine : Engine) : Type 0 where
  pub kept : AreKept engine None false
  pub unfinished : is_finished engine.ledger.records ≡ false

-- ---- how a call goes

-- The answer and the log are those of the outcome, unless memory was refused, when the log stays. With what it begins stays, and so do
-- the nodes if the call is refused.
pub record LeadsTo (outcome : WorldOutcome) (before : Engine) (given : Result (Unit {0}) Stop) (after : Engine) : Type 0 where
  pub answer : given ≢ Err NoMemory → given ≡ outcome.answer
  pub log : given ≢ Err NoMemory → after.ledger.records ≡ outcome.log
  pub kept : given ≢ Err NoMemory → AreKept after outcome.refused outcome.stopped
  pub same : given ≡ Err NoMemory → after.ledger.records ≡ before.ledger.records
  pub short : given ≡ Err NoMemory → AreKept after None true
  pub nodes : (refusal : Refusal) → given ≡ Err (Refused refusal) → after.overlay ≡ before.overlay
  pub settings : after.settings ≡ before.settings
  pub frames : after.frames ≡ before.frames
