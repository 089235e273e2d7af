-- What a core node does with a joining node that seeks its place.
use Rattle.std.specs.Prelude.{ℕ, List, Option, None, Some}
use Rattle.tap_name.specs.Prefix.{lcp}
use Rattle.tap_link.specs.LinkSet.{least_settled}
use Rattle.tap_table.specs.Table.{TableValue, links_near}
use Rattle.tap_join.specs.declared.sought.Sought.{Sought}
use Rattle.tap_join.specs.declared.sought.Sought.TheVariants.{Forward, Surrogate}

-- on to the primary of the seeker's slot; without one the node is the surrogate, with the digits that the two share
abbrev pub sought_by : Option (List ℕ) → ℕ → Sought
sought_by None prefix = Surrogate prefix
sought_by (Some primary) prefix = Forward primary

abbrev pub sought : TableValue → List ℕ → Sought
sought t joiner = sought_by (least_settled (links_near t joiner)) (lcp t.owner joiner)
