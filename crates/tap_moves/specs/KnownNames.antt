-- What nodes and frames keep, so that each frame that is sent has a spelling.
use Rattle.std.specs.Prelude.{◌≡◌, ℕ, ◌≤◌, List, length, All, IfSome, Some}
use Rattle.tap_name.specs.Name.{IsName}
use Rattle.tap_name.specs.Settings.{SettingsValue}
use Rattle.tap_name.specs.Word.{IsWord}
use Rattle.tap_pointer.specs.declared.hop.Hop.{Hop}
use Rattle.tap_pointer.specs.declared.pair.Pair.{Pair}
use Rattle.tap_pointer.specs.declared.state.PairState.{PairState}
use Rattle.tap_pointer.specs.Pointers.{PointersValue}
use Rattle.tap_pointer.specs.Reconcile.{AreLaid}
use Rattle.tap_session.specs.declared.parent.Parent.{Parent}
use Rattle.tap_session.specs.declared.parent.Parent.TheVariants.{Node, Root}
use Rattle.tap_session.specs.Session.{SessionsValue}
use Rattle.tap_table.specs.ByName.{targets_by_name}
use Rattle.tap_wire.specs.Layout.{most_links}
use Rattle.tap_wire.specs.Spelling.{IsLevel}
use Rattle.tap_rule.specs.Event.{Start}
use Rattle.tap_rule.specs.Event.Start.{Cast, Find, Publish}
use Rattle.tap_rule.specs.KeptNode.{IsNode}
use Rattle.tap_rule.specs.Node.{IsRunning, NodeState, name_of, settings_of}
use Rattle.tap_safety.specs.System.{System}

-- whoever is answered in the end is a name, and its session has a number
abbrev pub IsParent : SettingsValue → Parent → Type 0
IsParent p (Root joiner) = IsName p joiner
IsParent p (Node name session) = IsName p name × (1 ≤ session)

abbrev pub HaveParents : SettingsValue → SessionsValue → Type 0
HaveParents p sessions = All (λ s. IsParent p s.parent) sessions.sessions

-- a hop goes to a name, at a level
pub record IsHopOf (p : SettingsValue) (hop : Hop) : Type 0 where
  pub to : IsName p hop.to
  pub level : IsLevel p hop.level

-- the server of a pair is a name, and so is the node to which it is laid on
pub record IsNamedPair (p : SettingsValue) (e : Pair × PairState) : Type 0 where
  pub server : IsName p e.0.server
  pub laid : IfSome e.1.laid (IsHopOf p)

abbrev pub AreNamedPairs : SettingsValue → PointersValue → Type 0
AreNamedPairs p pointers = All (IsNamedPair p) pointers.pairs

-- Of whom a node speaks: its sessions are asked for by names, its pairs are of names, and its links are no more than a Hello has
-- room for.
pub record KnowsNames (p : SettingsValue) (node : NodeState) : Type 0 where
  pub parents : HaveParents p node.sessions
  pub cast_parents : HaveParents p node.cast_sessions
  pub pairs : AreNamedPairs p node.pointers
  pub few : length (targets_by_name node.ties.table) ≤ most_links

-- what a start brings: an object that is published or looked up is a name, and what is cast is a word
abbrev pub IsNamedStart : SettingsValue → Start → Type 0
IsNamedStart p (Publish object) = IsName p object
IsNamedStart p (Find ticket object) = IsName p object
IsNamedStart p (Cast cast level word) = IsWord word
IsNamedStart p _ = Unit {0}

-- each node keeps what nodes keep, stands under its name, with these settings, speaks of names alone, and has its pairs laid as
-- wanted while it runs
pub record IsNodeOf (p : SettingsValue) (x : List ℕ) (node : NodeState) : Type 0 where
  pub is_node : IsNode node
  pub name : name_of node ≡ x
  pub settings : settings_of node ≡ p
  pub knows : KnowsNames p node
  pub laid : IsRunning node.status → AreLaid node.ties.table node.pointers

pub record AreNodes (p : SettingsValue) (s : System) : Type 0 where
  pub nodes : (x : List ℕ) (node : NodeState) → s.node x ≡ Some node → IsNodeOf p x node
