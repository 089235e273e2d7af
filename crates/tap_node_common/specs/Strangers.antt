-- Which frames are strange to a node, by its table and its covers.
--
-- Rule: docs/PROTOCOL.md, "Strange frames".
use Rattle.std.specs.Prelude.{◌≡◌, ℕ, nat_eq, is_some, not, ◌||◌, Bool, if◌then◌else◌, List, [], count_by}
use Rattle.std.specs.Cmp.Lexicographic.{pointwise}
use Rattle.tap_name.specs.declared.slot.Offered.{Offered}
use Rattle.tap_multicast.specs.Covers.{CoversValue}
use Rattle.tap_table.specs.Table.{IsTable, TableValue, empty_table, kind_in}
use Rattle.tap_rule.specs.Node.{NodeState}
use Rattle.tap_node_common.specs.declared.known.Known.{Known}
use Rattle.tap_node_common.specs.declared.known.Known.TheVariants.{Kept, Nothing}

-- the answer given is that of each node with this table and these covers
abbrev pub IsForNode : TableValue → CoversValue → (NodeState → Bool) → Bool → Type 0
IsForNode t covers answer given = (node : NodeState) → node.ties.table ≡ t → node.covers ≡ covers → given ≡ answer node

-- the table and the covers of a node, by what it knows: a node that has ended has no links and covers nobody
abbrev pub table_known : Known → TableValue
table_known (Kept table covers) = table.now
table_known (Nothing settings name) = empty_table settings.now name.now

abbrev pub covers_known : Known → CoversValue
covers_known (Kept table covers) = covers.now
covers_known (Nothing settings name) = []

-- its table, if it has one, is valid
abbrev pub IsValid : Known → Type 0
IsValid (Kept table covers) = IsTable table.now
IsValid (Nothing settings name) = Unit {0}

-- the answer given is that of each node that knows this
abbrev pub IsFor : Known → (NodeState → Bool) → Bool → Type 0
IsFor known answer given = IsForNode (table_known known) (covers_known known) answer given

-- a name is the owner's or linked
abbrev pub is_known_to : TableValue → List ℕ → Bool
is_known_to t name = pointwise nat_eq name t.owner || is_some (kind_in t name)

-- how many links to a name may be added: one, unless it is known
abbrev pub new_beside : TableValue → List ℕ → ℕ
new_beside t name = if is_known_to t name then 0 else 1

-- how many may be added to the names that a Hello offers, its sender left out
abbrev pub new_among : TableValue → List ℕ → List Offered → ℕ
new_among t from links = count_by (λ link. not (pointwise nat_eq link.name from || is_known_to t link.name)) links
