-- An overlay with the nodes of a system, and laws of it.
--
-- Rule: docs/FORMATS.md, "The course of a run".
use Rattle.std.specs.Prelude.{◌≡◌, ℕ, List, Some}
use Rattle.std.specs.Option.{option_map}
use Rattle.tap_name.specs.Settings.{SettingsValue}
use Rattle.tap_rule.specs.Node.{NodeState}
use Rattle.tap_node.specs.Node.{running}
use Rattle.tap_safety.specs.AtRest.{system_at_rest}
use Rattle.tap_safety.specs.Exchanges.{with_at}
use Rattle.tap_safety.specs.System.{System}
use Rattle.tap_runs.specs.Observed.{nodes_of}
use Rattle.tap_overlay.specs.Overlay.{ChangesOnly, IsAtRest, OverlayValue, node_at, nodes_lent}

-- each node of the system is there, takes steps and is in the state that the system has, and nobody else is there
pub record HasNodesOf (s : System) (o : OverlayValue) : Type 0 where
  pub nodes_are : (name : List ℕ) → node_at o name ≡ option_map running (s.node name)

-- An overlay at rest has the nodes of the system of its members at rest. Of an overlay with the nodes of a system a walk reads what it
-- reads of the system. And if one node has changed, or has come, in an overlay and in its system alike, the overlay has the nodes of
-- the system again.
pub record OverlayLaw : Type 0 where
  pub at_rest : (p : SettingsValue) (members : List (List ℕ)) (o : OverlayValue) → IsAtRest p members o
      → HasNodesOf (system_at_rest p members) o
  pub walks : (s : System) (o : OverlayValue) → HasNodesOf s o → nodes_lent o ≡ nodes_of s
  pub changes : (s s' : System) (before after : OverlayValue) (name : List ℕ) (state : NodeState) → HasNodesOf s before
      → ChangesOnly before.nodes after.nodes name (running state)
      → ((other : List ℕ) → s'.node other ≡ with_at s.node name (Some state) other) → HasNodesOf s' after
