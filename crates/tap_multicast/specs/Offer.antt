-- Which slots of a joiner a node answers, and what it offers a joiner that it covers first.
use Rattle.std.specs.Prelude.{ℕ, ◌&&◌, ◌||◌, not, Bool, if◌then◌else◌, nat_eq, List, [], map, filter, Option, Some, is_some}
use Rattle.std.specs.Cmp.Lexicographic.{pointwise}
use Rattle.std.specs.List.{list_any}
use Rattle.tap_name.specs.declared.slot.Offered.{Offered}
use Rattle.tap_name.specs.declared.slot.Slot.{Slot}
use Rattle.tap_name.specs.Slot.{slot_at}
use Rattle.tap_link.specs.Entry.{LinkEntry}
use Rattle.tap_link.specs.LinkSet.{is_pinned, is_settled, least_settled}
use Rattle.tap_table.specs.ByName.{by_name}
use Rattle.tap_table.specs.Members.{is_slot}
use Rattle.tap_table.specs.Table.{TableValue, links_at, links_near, place_of}
use Rattle.tap_multicast.specs.declared.cover.Cover.{Cover}
use Rattle.tap_multicast.specs.Targets.{is_primary}

-- a node answers a slot of the joiner: it stands there itself, or else its own slot of that level and digit has a primary
abbrev pub answers : TableValue → List ℕ → Slot → Bool
answers t joiner slot = is_slot slot (slot_at joiner t.owner) || is_some (least_settled (links_at t slot))

-- the slots of a watch that it answers, and those that it doesn't
abbrev pub answered_slots : TableValue → List ℕ → List Slot → List Slot
answered_slots t joiner watch = filter (answers t joiner) watch

abbrev pub unanswered : TableValue → List ℕ → List Slot → List Slot
unanswered t joiner watch = filter (λ slot. not (answers t joiner slot)) watch

-- the watch that is left: at a first cover the slots that aren't answered, and else all
abbrev pub left : TableValue → List Slot → Cover → List Slot
left t watch cover = if cover.first then unanswered t cover.joiner watch else watch

-- the slot is one of these
abbrev pub has_slot : List Slot → Slot → Bool
has_slot slots slot = list_any (λ other. is_slot slot (Some other)) slots

-- A link is offered that stands in a slot with this primary, which is answered or not: a pin on another node than the joiner,
-- or the primary of an answered slot.
abbrev pub offers : List ℕ → Bool → Option (List ℕ) → LinkEntry (List ℕ) → Bool
offers joiner slot_answered primary link =
    (is_pinned (Some link.kind) && not (pointwise nat_eq joiner link.target))
    || (slot_answered && is_primary primary link.target)

-- a link of the table is offered
abbrev pub is_offered : TableValue → List Slot → List ℕ → LinkEntry (List ℕ) → Bool
is_offered t watch joiner link =
    offers joiner (has_slot (answered_slots t joiner watch) (place_of t.owner link.target)) (least_settled (links_near t link.target)) link

-- a link as it is offered: with the flag if it is settled
abbrev pub offered_as : LinkEntry (List ℕ) → Offered
offered_as link = record { name = link.target; settled = is_settled (Some link.kind) }

-- what a cover offers the joiner: at a first cover the links that are offered, ascending by name, and else nothing
abbrev pub offer : TableValue → List Slot → Cover → List Offered
offer t watch cover =
    if cover.first then map offered_as (filter (is_offered t watch cover.joiner) (by_name t)) else []
