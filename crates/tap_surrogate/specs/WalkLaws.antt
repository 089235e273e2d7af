-- The laws of walks, of next hops and of tables at rest.
use Rattle.std.specs.Prelude.{◌≡◌, ℕ, ◌≤◌, List, drop, Some, IsSomeAnd}
use Rattle.tap_name.specs.Settings.{SettingsValue, AreWithinLimits}
use Rattle.tap_name.specs.Name.{IsName}
use Rattle.tap_name.specs.Root.{Among, AreNames, first_of, root}
use Rattle.tap_table.specs.Next.{next_from}
use Rattle.tap_table.specs.Table.{IsTable, TableValue}
use Rattle.tap_surrogate.specs.Tables.{Tables}
use Rattle.tap_surrogate.specs.Nodes.{HasSettledCoreLinks, IsCore, IsSettledTable, Nodes, core_links}
use Rattle.tap_surrogate.specs.Entered.{AreEntered, WalkFollows, IsChain, next_of, walk_entered}
use Rattle.tap_surrogate.specs.HoleFree.{IsHoleFree}
use Rattle.tap_surrogate.specs.Members.{AreMembersAtRest, HaveLeastFitting}
use Rattle.tap_surrogate.specs.Walk.{walk, hops, walk_end}

-- The path of a walk over a core set: it leads from the node to the root of the object, over core
-- nodes alone, in as many hops as a name has digits or fewer.
pub record LeadsToRoot (p : SettingsValue) (core : List (List ℕ)) (node object : List ℕ)
    (path : List (List ℕ)) : Type 0 where
  pub begins : first_of path ≡ Some node
  pub ends : walk_end path ≡ root p.base core object
  pub few_hops : hops path ≤ p.digits
  pub over_core : (passed : List ℕ) → Among passed path → Among passed core

-- over tables without holes each walk from a core node leads to the root
abbrev pub WalkLaw : Type 0
WalkLaw = (p : SettingsValue) (core : List (List ℕ)) (tables : Tables) → IsHoleFree p core tables
    → (node object : List ℕ) → Among node core → IsName p object
    → LeadsToRoot p core node object (walk p.base tables node object)

-- such a walk enters each node at a greater level than the one before it, by the digits that the two share
abbrev pub EnteredLaw : Type 0
EnteredLaw = (p : SettingsValue) (core : List (List ℕ)) (tables : Tables) → IsHoleFree p core tables
    → (node object : List ℕ) → Among node core → IsName p object
    → AreEntered p (walk p.base tables node object) (walk_entered p.base tables node object)

-- if all links of a node are settled and to core nodes, the next hop of a message is the walk's
abbrev pub NextHopLaw : Type 0
NextHopLaw = (nodes : Nodes) (table : TableValue) → IsTable table → nodes.table_of table.owner ≡ Some table
    → HasSettledCoreLinks nodes table → (level : ℕ) (object : List ℕ) → level ≤ table.settings.digits
    → IsName table.settings object
    → WalkFollows table.settings.base (core_links nodes) (record { node = table.owner; level = level }) object
    (next_from table level (drop level object))

-- if this holds of each core node, a walk is a chain of next hops
abbrev pub ChainLaw : Type 0
ChainLaw = (p : SettingsValue) (nodes : Nodes)
    → ((node : List ℕ) → IsCore nodes node → IsSomeAnd (nodes.table_of node) (IsSettledTable p nodes node))
    → (from object : List ℕ) → IsCore nodes from → IsName p object
    → IsChain (next_of nodes object) (walk_entered p.base (core_links nodes) from object)

-- tables at rest over members have no hole
abbrev pub RestLaw : Type 0
RestLaw = (p : SettingsValue) (members : List (List ℕ)) (nodes : Nodes) → AreWithinLimits p
    → AreNames p members → AreMembersAtRest p members nodes → IsHoleFree p members (core_links nodes)

-- they have settled links to the least members that fit, and no other links
abbrev pub LeastLaw : Type 0
LeastLaw = (p : SettingsValue) (members : List (List ℕ)) (nodes : Nodes) → AreWithinLimits p
    → AreNames p members → AreMembersAtRest p members nodes → HaveLeastFitting p members nodes
