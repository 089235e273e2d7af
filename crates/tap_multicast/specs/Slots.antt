-- What one slot of a table adds to the targets of a cover and to its offer: both are made slot by slot, in the order of names.
use Rattle.std.specs.Prelude.{ℕ, ◌+◌, ◌&&◌, Bool, List, map, filter, is_some}
use Rattle.tap_name.specs.declared.slot.Offered.{Offered}
use Rattle.tap_name.specs.declared.slot.Slot.{Slot}
use Rattle.tap_link.specs.Entry.{LinkEntry}
use Rattle.tap_link.specs.LinkSet.{least_settled}
use Rattle.tap_table.specs.Table.{SlotLinks, TableValue, links_at}
use Rattle.tap_multicast.specs.declared.cover.Cover.{Cover}
use Rattle.tap_multicast.specs.declared.target.Target.{Target}
use Rattle.tap_multicast.specs.Offer.{has_slot, offered_as, offers}
use Rattle.tap_multicast.specs.Targets.{tells}

-- a target that is told at a level
abbrev pub target_at : ℕ → LinkEntry (List ℕ) → Target
target_at level link = record { to = link.target; level = level }

-- the targets among the links of a slot of this level
abbrev pub told_among : Cover → ℕ → SlotLinks → List Target
told_among cover level links = map (target_at (level + 1)) (filter (tells cover level (least_settled links)) links)

abbrev pub told_in : TableValue → Cover → Slot → List Target
told_in t cover slot = told_among cover slot.level (links_at t slot)

-- what is offered among the links of a slot, which is answered or not
abbrev pub offered_among : List ℕ → Bool → SlotLinks → List Offered
offered_among joiner answered links = map offered_as (filter (offers joiner answered (least_settled links)) links)

-- a slot with a primary is answered if it is watched
abbrev pub offered_in : TableValue → List Slot → List ℕ → Slot → List Offered
offered_in t watch joiner slot =
    let links = links_at t slot in
    offered_among joiner (is_some (least_settled links) && has_slot watch slot) links
