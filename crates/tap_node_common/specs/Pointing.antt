-- Lays, Finds and lookups, as the rule of a node has them.
--
-- Rule: docs/PROTOCOL.md, "Lay" and "Find".
use Rattle.std.specs.Prelude.{◌≡◌, ℕ, List}
use Rattle.tap_table.specs.Table.{TableValue}
use Rattle.tap_pointer.specs.Pointers.{PointersValue, lay_applied, pair_of, pointer_at}
use Rattle.tap_rule.specs.Node.{NodeState}
use Rattle.tap_rule.specs.Reaction.{Reaction}
use Rattle.tap_node_common.specs.declared.news.News.{News}
use Rattle.tap_node_common.specs.declared.pointing.TakenLay.{TakenLay}
use Rattle.tap_node_common.specs.StepsAs.{StepsAs}

-- the pointers once a Lay is taken
abbrev pub lay_taken : PointersValue → TakenLay → PointersValue
lay_taken pointers lay = lay_applied pointers (pair_of lay.object lay.server) lay.from lay.version (pointer_at lay.level lay.on)

-- each node with this table and these pointers takes the step of a rule that leaves it as it is: it adds these frames, with this
-- news
abbrev pub EachStepsAs : TableValue → PointersValue → (NodeState → Reaction) → List (List ℕ) → List (List ℕ) → News → Type 0
EachStepsAs t pointers rule before sent news =
    (node : NodeState) → node.ties.table ≡ t → node.pointers ≡ pointers → StepsAs node (rule node) node before sent news
