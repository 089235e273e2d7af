-- Whom a node tells of a joiner that it covers.
use Rattle.std.specs.Prelude.{ℕ, ◌+◌, ◌&&◌, ◌||◌, not, Bool, false, nat_eq, List, map, filter, Option, None, Some}
use Rattle.std.specs.Cmp.Lexicographic.{pointwise}
use Rattle.tap_name.specs.Prefix.{lcp}
use Rattle.tap_link.specs.Entry.{LinkEntry}
use Rattle.tap_link.specs.LinkSet.{is_pinned, least_settled}
use Rattle.tap_table.specs.ByName.{by_name}
use Rattle.tap_table.specs.Levels.{is_between}
use Rattle.tap_table.specs.Table.{TableValue, links_near}
use Rattle.tap_multicast.specs.declared.cover.Cover.{Cover}
use Rattle.tap_multicast.specs.declared.target.Target.{Target}

-- the slots of this level are covered: from the level of the cover up to the one at which the joiner was covered before
abbrev pub is_covered : Cover → ℕ → Bool
is_covered cover level = is_between cover.level cover.before level

-- the pins of this level are introduced to the joiner: at its first cover, from its prefix up to the level of the cover
abbrev pub is_introduced : Cover → ℕ → Bool
is_introduced cover level = cover.first && is_between cover.prefix cover.level level

-- the name is this primary
abbrev pub is_primary : Option (List ℕ) → List ℕ → Bool
is_primary None name = false
is_primary (Some primary) name = pointwise nat_eq primary name

-- A cover tells a link that stands in a slot of this level with this primary: any but the joiner, if the slot is covered and
-- the link is a pin or the primary, or if the slot's pins are introduced and it is one.
abbrev pub tells : Cover → ℕ → Option (List ℕ) → LinkEntry (List ℕ) → Bool
tells cover level primary link =
    let pin = is_pinned (Some link.kind) in
    not (pointwise nat_eq cover.joiner link.target)
    && ((is_covered cover level && (pin || is_primary primary link.target)) || (is_introduced cover level && pin))

-- the cover tells a link of the table
abbrev pub is_told : TableValue → Cover → LinkEntry (List ℕ) → Bool
is_told t cover link = tells cover (lcp t.owner link.target) (least_settled (links_near t link.target)) link

-- the target of a link, with the level after those at which its name is the owner's
abbrev pub target_of : List ℕ → LinkEntry (List ℕ) → Target
target_of owner link = record { to = link.target; level = lcp owner link.target + 1 }

-- the targets of a cover: the links of the table that it tells, ascending by name
abbrev pub targets : TableValue → Cover → List Target
targets t cover = map (target_of t.owner) (filter (is_told t cover) (by_name t))
