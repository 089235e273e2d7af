-- The nodes of an overlay as a walk reads them, and which of their links it follows.
use Rattle.std.specs.Prelude.{◌≡◌, ℕ, nat_lt, Bool, true, if◌then◌else◌, List, [], map, filter, All, Option, None, Some}
use Rattle.std.specs.List.{slice_index_or}
use Rattle.tap_name.specs.declared.slot.Slot.{Slot}
use Rattle.tap_name.specs.Settings.{SettingsValue}
use Rattle.tap_name.specs.Root.{Among}
use Rattle.tap_link.specs.declared.kind.Kind.TheVariants.{Settled}
use Rattle.tap_table.specs.Members.{IsBelow}
use Rattle.tap_table.specs.Table.{IsTable, SlotLinks, TableValue, links_at, place_of}
use Rattle.tap_surrogate.specs.Tables.{Tables}

-- for each name the table of its node, if it has one, and whether the node is core
pub record Nodes : Type 0 where
  pub table_of : List ℕ → Option TableValue
  pub core : List ℕ → Bool

-- there is a core node of this name
abbrev pub IsCore : Nodes → List ℕ → Type 0
IsCore nodes name = nodes.core name ≡ true

-- this is the table of an owner, with the settings
pub record IsTableOf (p : SettingsValue) (owner : List ℕ) (table : TableValue) : Type 0 where
  pub owner_is : table.owner ≡ owner
  pub settings_are : table.settings ≡ p

-- the links in a slot of a table: none if there is no table, or if the base has no such digit
abbrev pub links_in : Option TableValue → Slot → SlotLinks
links_in None slot = []
links_in (Some table) slot = if nat_lt slot.digit table.settings.base then links_at table slot else []

-- the core nodes to which a node has links in a slot, in their order there; pins, settled and leaving links count alike
abbrev pub core_links : Nodes → Tables
core_links nodes node slot = filter nodes.core (map (λ e. e.target) (links_in (nodes.table_of node) slot))

-- each link of a table is settled, and to a core node
pub record HasSettledCoreLinks (nodes : Nodes) (table : TableValue) : Type 0 where
  pub settled : (number : ℕ) → All (λ e. e.kind ≡ Settled) (slice_index_or table.slots number [])
  pub core : (number : ℕ) → All (λ e. IsCore nodes e.target) (slice_index_or table.slots number [])

-- this is the table of an owner, and each of its links is settled and to a core node
pub record IsSettledTable (p : SettingsValue) (nodes : Nodes) (owner : List ℕ) (table : TableValue) : Type 0 where
  pub of_owner : IsTableOf p owner table
  pub valid : IsTable table
  pub links : HasSettledCoreLinks nodes table

-- none of the names is below this one
abbrev pub IsLeast : List (List ℕ) → List ℕ → Type 0
IsLeast names to = (other : List ℕ) → Among other names → ¬ (IsBelow other to)

-- of the core nodes to which a node has links in one of its slots, this one is the least
pub record IsLeastLink (nodes : Nodes) (node to : List ℕ) : Type 0 where
  pub linked : Among to (core_links nodes node (place_of node to))
  pub least : IsLeast (core_links nodes node (place_of node to)) to
