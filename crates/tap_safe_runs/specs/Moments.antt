-- What holds at each moment of a run, in the words of its log.
--
-- Rule: docs/FORMATS.md, "The course of a run".
use Rattle.std.specs.Prelude.{◌≡◌, ◌≢◌, ℕ, true, List, [], take, None, Some}
use Rattle.tap_name.specs.Name.{IsName}
use Rattle.tap_name.specs.Names.{Among, has_name}
use Rattle.tap_name.specs.Settings.{SettingsValue}
use Rattle.tap_log.specs.declared.record.Record.{Record}
use Rattle.tap_history.specs.Core.{abandoned_of, core_of, gone_of, present_of}
use Rattle.tap_history.specs.Departing.{departing_of}
use Rattle.tap_history.specs.Moments.{is_moment, is_rest}
use Rattle.tap_surrogate.specs.HoleFree.{IsHoleFree}
use Rattle.tap_surrogate.specs.WalkLaws.{LeadsToRoot}
use Rattle.tap_surrogate.specs.Nodes.{core_links}
use Rattle.tap_surrogate.specs.Tables.{Tables}
use Rattle.tap_surrogate.specs.Walk.{walk}
use Rattle.tap_rule.specs.Node.{NodeState, join_session_at}
use Rattle.tap_safety.specs.Rest.{Rest}
use Rattle.tap_safety.specs.System.{System}
use Rattle.tap_runs.specs.Beginning.{Beginning}
use Rattle.tap_runs.specs.Course.{system_of}
use Rattle.tap_runs.specs.Observed.{nodes_of}
use Rattle.tap_safe_runs.specs.Safe.{IsRun}

-- the tables of the nodes that this log has come to, as a walk reads them
abbrev pub tables_of : List Record → Tables
tables_of log = core_links (nodes_of (system_of log))

-- ---- each moment

-- this holds of the log of each run, up to each of its moments
abbrev pub AtEachMoment : (SettingsValue → List Record → Type 0) → Type 0
AtEachMoment Holds = (b : Beginning) (log : List Record) (m : ℕ) → IsRun b log → is_moment log m ≡ true → Holds b.settings (take m log)

-- there is a core node
abbrev pub HasCoreNodes : SettingsValue → List Record → Type 0
HasCoreNodes p log = core_of log ≢ []

-- no core node's table has a hole that another core node could fill
abbrev pub HasNoHole : SettingsValue → List Record → Type 0
HasNoHole p log = IsHoleFree p (core_of log) (tables_of log)

-- each walk from a core node leads to the one root of its object, over core nodes alone, in as many hops as names have digits or fewer
abbrev pub WalksEndAtRoots : SettingsValue → List Record → Type 0
WalksEndAtRoots p log = (from object : List ℕ) → Among from (core_of log) → IsName p object
    → LeadsToRoot p (core_of log) from object (walk p.base (tables_of log) from object)

-- ---- at rest

-- Each node that is present is core, whoever was to give its join up is gone, and nobody departs; that whoever departed is gone is said in
-- Leavers.antt. No session of a join is open at any node, no link is a pin or marked, and of two nodes, the second one core, the first is a
-- holder that is on exactly if it has a link to the second.
pub record IsAllCore (log : List Record) (s : System) : Type 0 where
  pub joined : (x : List ℕ) → has_name (present_of log) x ≡ has_name (core_of log) x
  pub given_up : (x : List ℕ) → has_name (abandoned_of log) x ≡ true → has_name (gone_of log) x ≡ true
  pub departing : departing_of log ≡ None
  pub sessions : (x : List ℕ) (node : NodeState) (k : ℕ) → s.node x ≡ Some node → join_session_at node k ≡ None
  pub left : Rest s

abbrev pub RestIsAllCore : SettingsValue → List Record → Type 0
RestIsAllCore p log = is_rest log ≡ true → IsAllCore log (system_of log)
