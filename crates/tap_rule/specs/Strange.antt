-- Which frames are strange to a node: they are refused, and change nothing.
--
-- A frame: `is_strange`, then `is_own_name`, `is_strange_body`, `names_to_link` and `is_too_many`.
--
-- Rule: docs/PROTOCOL.md, "Strange frames".
use Rattle.std.specs.Prelude.{ℕ, ◌==◌, ◌||◌, nat_eq, nat_lt, Bool, false, true, if◌then◌else◌, List, [], ◌∷◌, length, map, Option, None, Some, is_some}
use Rattle.std.specs.Cmp.Lexicographic.{pointwise}
use Rattle.tap_name.specs.Name.{Name}
use Rattle.tap_name.specs.Names.{has_name}
use Rattle.tap_name.specs.Prefix.{Level, lcp}
use Rattle.tap_link.specs.declared.kind.Kind.{Kind}
use Rattle.tap_link.specs.declared.kind.Kind.TheVariants.{Pin, Settled, Leaving}
use Rattle.tap_session.specs.Session.{Depth}
use Rattle.tap_wire.specs.declared.frame.Frame.{Frame}
use Rattle.tap_wire.specs.declared.frame.Body.{Body}
use Rattle.tap_wire.specs.declared.frame.Body.TheVariants.{Seek, Tell, Hello, Leave, Cast}
use Rattle.tap_wire.specs.Layout.{most_links}
use Rattle.tap_table.specs.ByName.{targets_by_name}
use Rattle.tap_depart.specs.Leaving.{names_but}
use Rattle.tap_rule.specs.Node.{NodeState, level_of, name_of}
pub use Rattle.tap_rule.specs.Node.{link_to}

-- the name is the node's own
abbrev pub is_own_name : NodeState → Name → Bool
is_own_name node name = pointwise nat_eq name (name_of node)

-- a link that is leaving, and one that is no pin
abbrev pub is_leaving : Option Kind → Bool
is_leaving None = false
is_leaving (Some Pin) = false
is_leaving (Some Settled) = false
is_leaving (Some Leaving) = true

abbrev pub is_no_pin : Option Kind → Bool
is_no_pin None = false
is_no_pin (Some Pin) = false
is_no_pin (Some Settled) = true
is_no_pin (Some Leaving) = true

-- the depth that no frame goes beyond
abbrev pub most_depth : Depth
most_depth = 65535

-- a Seek is strange of the node itself, of a joiner that it covers, and of one that it links to as leaving
abbrev pub is_strange_seek : NodeState → Name → Bool
is_strange_seek node joiner =
    is_own_name node joiner || is_some (level_of node joiner) || is_leaving (link_to node joiner)

-- a Tell is strange of the node itself, of a joiner that it links to otherwise than by a pin, with a prefix above what the two
-- share, and at the greatest depth
abbrev pub is_strange_tell : NodeState → Name → Level → Depth → Bool
is_strange_tell node joiner prefix depth =
    is_own_name node joiner || is_no_pin (link_to node joiner) || nat_lt (lcp (name_of node) joiner) prefix || depth == most_depth

-- by what it says
unfoldable pub is_strange_body : NodeState → Body → Bool
is_strange_body node (Seek joiner) = is_strange_seek node joiner
is_strange_body node (Tell joiner prefix level session depth watch) = is_strange_tell node joiner prefix depth
is_strange_body node (Cast cast level session depth word) = depth == most_depth
is_strange_body node _ = false

-- the name, if there is one
abbrev pub name_if : Option Name → List Name
name_if None = []
name_if (Some name) = name ∷ []

-- the names that a frame could link
unfoldable pub names_to_link : Name → Body → List Name
names_to_link from (Seek joiner) = joiner ∷ []
names_to_link from (Tell joiner prefix level session depth watch) = joiner ∷ []
names_to_link from (Hello session core links) = from ∷ map (λ link. link.name) links
names_to_link from (Leave replacement) = name_if replacement
names_to_link from _ = []

-- these names, with others that aren't among them yet
abbrev pub with_names : List Name → List Name → List Name
with_names names [] = names
with_names names (name ∷ others) = with_names (if has_name names name then names else name ∷ names) others

-- how many links a node may have: as many as a Hello may offer
abbrev pub most_links_kept : ℕ
most_links_kept = most_links

-- the node's links and the names that a frame could link are, its own name left out, more than these
abbrev pub is_too_many : NodeState → List Name → Bool
is_too_many node names =
    nat_lt most_links_kept (length (names_but (with_names (targets_by_name node.ties.table) names) (name_of node)))

-- a frame is strange by its sender, by what it says, or by the names that it could link
abbrev pub is_strange : NodeState → Frame → Bool
is_strange node frame =
    is_own_name node frame.from || is_strange_body node frame.body || is_too_many node (names_to_link frame.from frame.body)
