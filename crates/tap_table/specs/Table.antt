-- A table: one list of links for each slot.
use Rattle.std.specs.Prelude.{◌≡◌, ℕ, ◌≤◌, ◌+◌, ◌*◌, ◌/◌, ◌%◌, Bool, List, [], length, map, replicate, slice_index, slice_set, nat_eq, All, Option}
use Rattle.std.specs.List.{common_prefix_len, enumerate_from, flat_map, slice_index_or}
use Rattle.tap_name.specs.declared.slot.Slot.{Slot}
use Rattle.tap_name.specs.Name.{IsName}
pub use Rattle.tap_name.specs.Order.{name_cmp}
use Rattle.tap_name.specs.Settings.{SettingsValue, AreWithinLimits}
use Rattle.tap_link.specs.declared.kind.Kind.{Kind}
use Rattle.tap_link.specs.Entry.{LinkEntry}
use Rattle.tap_link.specs.LinkSet.{LinkSetValue, IsLinkSet, has_room, kind_of}
use Rattle.tap_link.specs.LinkSet.{pinned as set_pinned, offered as set_offered, released as set_released, forgotten as set_forgotten, marked as set_marked, removed as set_removed}

-- the links of one slot
abbrev pub SlotLinks : Type 0
SlotLinks = List (LinkEntry (List ℕ))

-- what a table is seen as: its owner, the settings, and the links of each slot by the slot's number
pub record TableValue : Type 0 where
  pub owner : List ℕ
  pub settings : SettingsValue
  pub slots : List SlotLinks

-- Slots are numbered level by level, and by digit in each.
abbrev pub slot_number : ℕ → Slot → ℕ
slot_number base slot = slot.level * base + slot.digit

abbrev pub slot_numbered : ℕ → ℕ → Slot
slot_numbered base number = record { level = number / base; digit = number % base }

-- the slot of a name in the table of an owner: how many digits they share, and the name's digit after them
abbrev pub place_of : List ℕ → List ℕ → Slot
place_of owner name =
    let level = common_prefix_len nat_eq owner name in record { level = level; digit = slice_index name level }

-- the table without links
abbrev pub empty_table : SettingsValue → List ℕ → TableValue
empty_table settings owner =
    record { owner = owner; settings = settings; slots = replicate (settings.base * settings.digits) [] }

-- the link set of the slot of this number
abbrev pub set_numbered : TableValue → ℕ → LinkSetValue (List ℕ)
set_numbered t number = record { width = t.settings.width; links = slice_index_or t.slots number [] }

-- the link set of a slot, and its links
abbrev pub set_at : TableValue → Slot → LinkSetValue (List ℕ)
set_at t slot = set_numbered t (slot_number t.settings.base slot)

abbrev pub links_at : TableValue → Slot → SlotLinks
links_at t slot = (set_at t slot).links

-- no slot of this level or a deeper one has a link
abbrev pub HasNoLinksFrom : TableValue → ℕ → Type 0
HasNoLinksFrom t level = (slot : Slot) → level ≤ slot.level → links_at t slot ≡ []

-- the link set of the slot in which a name stands, and its links
abbrev pub near : TableValue → List ℕ → LinkSetValue (List ℕ)
near t name = set_at t (place_of t.owner name)

abbrev pub links_near : TableValue → List ℕ → SlotLinks
links_near t name = (near t name).links

-- the kind of the link to a name, if there is one
abbrev pub kind_in : TableValue → List ℕ → Option Kind
kind_in t name = kind_of name_cmp (links_near t name) name

-- one more link may be settled in the slot in which a name stands
abbrev pub has_room_near : TableValue → List ℕ → Bool
has_room_near t name = has_room (near t name)

-- the table with this set in the slot in which a name stands, and the other slots as they were
abbrev pub with_near : TableValue → List ℕ → LinkSetValue (List ℕ) → TableValue
with_near t name set =
    record t { slots = slice_set t.slots (slot_number t.settings.base (place_of t.owner name)) set.links }

-- The table after each call that changes it: the set of the slot in which the name stands changes as that set's own call
-- changes it, and the other slots stay.
abbrev pub pinned : TableValue → List ℕ → TableValue
pinned t name = with_near t name (set_pinned name_cmp (near t name) name)

abbrev pub offered : TableValue → List ℕ → TableValue
offered t name = with_near t name (set_offered name_cmp (near t name) name)

abbrev pub released : TableValue → List ℕ → TableValue
released t name = with_near t name (set_released name_cmp (near t name) name)

abbrev pub forgotten : TableValue → List ℕ → TableValue
forgotten t name = with_near t name (set_forgotten name_cmp (near t name) name)

abbrev pub marked : TableValue → List ℕ → TableValue
marked t name = with_near t name (set_marked name_cmp (near t name) name)

abbrev pub removed : TableValue → List ℕ → TableValue
removed t name = with_near t name (set_removed name_cmp (near t name) name)

-- a target stands in the slot of this number in the table of an owner
pub record StandsIn (p : SettingsValue) (owner : List ℕ) (number : ℕ) (target : List ℕ) : Type 0 where
  pub is_name : IsName p target
  pub place : slot_number p.base (place_of owner target) ≡ number

-- what each table keeps
pub record IsTable (t : TableValue) : Type 0 where
  pub limits : AreWithinLimits t.settings
  pub owner : IsName t.settings t.owner
  pub count : length t.slots ≡ t.settings.base * t.settings.digits
  -- each target stands in its own slot
  pub standing : (number : ℕ) → All (λ e. StandsIn t.settings t.owner number e.target) (slice_index_or t.slots number [])
  -- the links of each slot ascend, and at most as many as the width allows are settled and not leaving
  pub sets : (number : ℕ) → IsLinkSet name_cmp (set_numbered t number)

-- the table of an owner with these link sets in its slots
abbrev pub table_of : List ℕ → SettingsValue → List (LinkSetValue (List ℕ)) → TableValue
table_of owner settings sets = record { owner = owner; settings = settings; slots = map (λ s. s.links) sets }

-- these are the link sets of a table
pub record AreSets (owner : List ℕ) (settings : SettingsValue) (sets : List (LinkSetValue (List ℕ))) : Type 0 where
  pub valid : IsTable (table_of owner settings sets)
  pub widths : All (λ s. s.width ≡ settings.width) sets

-- a link in its slot
pub record Row : Type 0 where
  pub slot : Slot
  pub entry : LinkEntry (List ℕ)

-- the links of the slot of this number
abbrev pub rows_of : ℕ → ℕ × SlotLinks → List Row
rows_of base (number, links) = map (λ e. record { slot = slot_numbered base number; entry = e }) links

-- all links of a table, in ascending order of slot, then target
abbrev pub rows : TableValue → List Row
rows t = flat_map (rows_of t.settings.base) (enumerate_from 0 t.slots)
