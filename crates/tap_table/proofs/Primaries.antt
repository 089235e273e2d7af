-- What each change of a table makes of the primaries of its slots.
-- Cited above: full_has_primary, primary_at-forgotten, primary_at-marked_other, primary_at-pinned, primary_elsewhere, primary_near,
-- primary_near-offered
use Rattle.std.proofs.Common.{◌≡◌, ◌≢◌, ◌&&◌, ℕ, false, if◌then◌else◌, Option, Some, List, [], get_or, ap, sym, ◌∙◌, inl, inr}
use Rattle.std.specs.Option.{is_none}
use Rattle.std.specs.Ordering.{is_eq}
use Rattle.std.specs.declared.cmp.Ordering.TheVariants.{Less}
use Rattle.std.proofs.lemmas.Bool.{cases_eq}
use Rattle.std.proofs.lemmas.Cmp.{nat_list_cmp_total}
use Rattle.tap_name.specs.declared.slot.Slot.{Slot}
use Rattle.tap_name.specs.Name.{IsName}
use Rattle.tap_link.specs.LinkSet.{IsLinkSet, LinkSetValue, is_pinned, least_settled}
use Rattle.tap_link.specs.LinkSet.{pinned as set_pinned, offered as set_offered, released as set_released, forgotten as set_forgotten, marked as set_marked, removed as set_removed}
use Rattle.tap_link.proofs.Primaries.{TellsApart, least_settled-forgotten, least_settled-marked, least_settled-marked_other, least_settled-offered, least_settled-pinned, least_settled-released, least_settled-removed, least_settled-removed_other, lesser_of}
use Rattle.tap_link.proofs.Sizes.{full-has_primary}
use Rattle.tap_table.specs.Next.{primary_at}
use Rattle.tap_table.specs.Table.{IsTable, TableValue, forgotten, has_room_near, kind_in, links_near, marked, name_cmp, near, offered, pinned, released, removed, slot_number, with_near}
use Rattle.tap_table.proofs.Near.{links_elsewhere, links_here, number_near, tied_names}

pub names_apart : TellsApart name_cmp
names_apart a b equal = tied_names a b (ap is_eq equal)

-- the primary of the slot in which a name stands
abbrev pub primary_near : TableValue → List ℕ → Option (List ℕ)
primary_near t name = least_settled (links_near t name)

-- a slot without room has a primary
pub full_has_primary : (t : TableValue) (name : List ℕ) → IsTable t → has_room_near t name ≡ false
    → (first : List ℕ) × (primary_near t name ≡ Some first)
full_has_primary t name valid full =
    full-has_primary name_cmp (near t name) (valid.sets (number_near t name)) full valid.limits.width_from

module _ (t : TableValue) (name : List ℕ) (valid : IsTable t) (is_name : IsName t.settings name) (other : name ≢ t.owner) where
  -- the slot of the name has the primary of its new set, and other slots have theirs
  primary_here : (new : LinkSetValue (List ℕ)) → primary_near (with_near t name new) name ≡ least_settled new.links
  primary_here new = ap least_settled (links_here t name valid is_name other new)

  pub primary_elsewhere : (new : LinkSetValue (List ℕ)) (level digit : ℕ)
      → slot_number t.settings.base (record { level = level; digit = digit }) ≢ number_near t name
      → primary_at (with_near t name new) level digit ≡ primary_at t level digit
  primary_elsewhere new level digit ne =
      let slot : Slot = record { level = level; digit = digit } in
      ap least_settled (links_elsewhere t name valid is_name other new (slot_number t.settings.base slot) ne)

  -- where the new set has the same primary, each slot has
  primaries_stay : (new : LinkSetValue (List ℕ)) → least_settled new.links ≡ primary_near t name
      → (level digit : ℕ) → primary_at (with_near t name new) level digit ≡ primary_at t level digit
  primaries_stay new same level digit =
      let slot : Slot = record { level = level; digit = digit } in
      elim (cases_eq (slot_number t.settings.base slot) (number_near t name)) [
        | inl is ↦
            let now = ap (λ n. least_settled (get_or (with_near t name new).slots n [])) is in
            let before = ap (λ n. least_settled (get_or t.slots n [])) is in
            now ∙ primary_here new ∙ same ∙ sym before
        | inr ne ↦ primary_elsewhere new level digit ne
      ]

  abbrev old : LinkSetValue (List ℕ)
  old = near t name

  old_valid : IsLinkSet name_cmp old
  old_valid = valid.sets (number_near t name)

  -- a pin and its end leave all primaries as they are
  pub primary_at-pinned : (level digit : ℕ) → primary_at (pinned t name) level digit ≡ primary_at t level digit
  primary_at-pinned =
      primaries_stay (set_pinned name_cmp old name)
      (least_settled-pinned name_cmp nat_list_cmp_total names_apart old name old_valid)

  pub primary_at-forgotten : (level digit : ℕ) → primary_at (forgotten t name) level digit ≡ primary_at t level digit
  primary_at-forgotten =
      primaries_stay (set_forgotten name_cmp old name)
      (least_settled-forgotten name_cmp nat_list_cmp_total names_apart old name old_valid)

  -- an offer that adds a link makes the name its slot's primary, where no lesser one is
  pub primary_near-offered : primary_near (offered t name) name
      ≡ (if is_none (kind_in t name) && has_room_near t name then lesser_of name_cmp (primary_near t name) name else primary_near t name)
  primary_near-offered =
      primary_here (set_offered name_cmp old name)
      ∙ least_settled-offered name_cmp nat_list_cmp_total names_apart old name old_valid

  -- and so does a release that settles its sender
  pub primary_near-released : primary_near (released t name) name
      ≡ (if is_pinned (kind_in t name) && has_room_near t name then lesser_of name_cmp (primary_near t name) name else primary_near t name)
  primary_near-released =
      primary_here (set_released name_cmp old name)
      ∙ least_settled-released name_cmp nat_list_cmp_total names_apart old name old_valid

  -- a mark or a removal of another name than the primary leaves all primaries as they are
  pub primary_at-marked_other : primary_near t name ≢ Some name → (level digit : ℕ)
      → primary_at (marked t name) level digit ≡ primary_at t level digit
  primary_at-marked_other differs =
      primaries_stay (set_marked name_cmp old name)
      (least_settled-marked_other name_cmp nat_list_cmp_total names_apart old name old_valid differs)

  pub primary_at-removed_other : primary_near t name ≢ Some name → (level digit : ℕ)
      → primary_at (removed t name) level digit ≡ primary_at t level digit
  primary_at-removed_other differs =
      primaries_stay (set_removed name_cmp old name)
      (least_settled-removed_other name_cmp nat_list_cmp_total names_apart old name old_valid differs)

  -- after a mark or a removal of the primary, the next one of the slot is above it
  pub primary_near-marked : (next : List ℕ) → primary_near t name ≡ Some name → primary_near (marked t name) name ≡ Some next
      → name_cmp name next ≡ Less
  primary_near-marked next is now =
      least_settled-marked name_cmp nat_list_cmp_total names_apart old name old_valid next is
      (sym (primary_here (set_marked name_cmp old name)) ∙ now)

  pub primary_near-removed : (next : List ℕ) → primary_near t name ≡ Some name → primary_near (removed t name) name ≡ Some next
      → name_cmp name next ≡ Less
  primary_near-removed next is now =
      least_settled-removed name_cmp nat_list_cmp_total names_apart old name old_valid next is
      (sym (primary_here (set_removed name_cmp old name)) ∙ now)
