-- What the whole invariant says of tables and of walks.
use Rattle.std.specs.Prelude.{◌↔◌, List, ℕ}
use Rattle.tap_name.specs.Name.{IsName}
use Rattle.tap_name.specs.Names.{Among}
use Rattle.tap_name.specs.Settings.{SettingsValue}
use Rattle.tap_surrogate.specs.HoleFree.{IsHoleFree}
use Rattle.tap_surrogate.specs.WalkLaws.{LeadsToRoot}
use Rattle.tap_surrogate.specs.Nodes.{core_links}
use Rattle.tap_surrogate.specs.Walk.{walk}
use Rattle.tap_runs.specs.Observed.{nodes_of}
use Rattle.tap_safety.specs.System.{System, IsCoreNode}
use Rattle.tap_safety_moves.specs.Sound.{Sound}

-- these are the names of the core nodes
abbrev pub AreCoreNames : System → List (List ℕ) → Type 0
AreCoreNames s core = (x : List ℕ) → Among x core ↔ IsCoreNode s x

-- there is such a list
abbrev pub CoreIsListed : Type 0
CoreIsListed = (p : SettingsValue) (s : System) → Sound p s → (core : List (List ℕ)) × AreCoreNames s core

-- no table of a core node has a hole that another core node could fill
abbrev pub TablesAreHoleFree : Type 0
TablesAreHoleFree = (p : SettingsValue) (s : System) (core : List (List ℕ)) → Sound p s → AreCoreNames s core
    → IsHoleFree p core (core_links (nodes_of s))

-- so each walk leads from a core node to the one root of its object
abbrev pub WalksLeadToRoots : Type 0
WalksLeadToRoots = (p : SettingsValue) (s : System) (core : List (List ℕ)) (node object : List ℕ) → Sound p s → AreCoreNames s core
    → Among node core → IsName p object
    → LeadsToRoot p core node object (walk p.base (core_links (nodes_of s)) node object)
