-- The tables and ties at rest over the members of an overlay.
use Rattle.std.specs.Prelude.{◌≡◌, ◌==◌, ◌&&◌, ℕ, ◌*◌, ◌≤◌, Bool, true, false, Option, None, Some, List, length, map, filter, take, nat_eq, All, AllPairs, ◌⊎◌}
use Rattle.std.specs.List.{list_any, range_with_len}
use Rattle.std.specs.List.Sorted.{IsPermutation}
use Rattle.std.specs.Cmp.Lexicographic.{pointwise}
use Rattle.tap_name.specs.declared.slot.Slot.{Slot}
use Rattle.tap_name.specs.Settings.{SettingsValue}
use Rattle.tap_name.specs.Slot.{slot_at, Fits}
use Rattle.tap_name.specs.Root.{Among}
use Rattle.tap_name.specs.Order.{sorted}
pub use Rattle.tap_name.specs.Order.{IsBelow}
use Rattle.tap_link.specs.declared.kind.Kind.TheVariants.{Settled}
use Rattle.tap_register.specs.declared.registers.Entry.{Entry}
use Rattle.tap_table.specs.Table.{SlotLinks, TableValue, place_of, slot_numbered}
use Rattle.tap_table.specs.Ties.{TiesValue}

-- this is the slot
abbrev pub is_slot : Slot → Option Slot → Bool
is_slot slot None = false
is_slot slot (Some other) = (other.level == slot.level) && (other.digit == slot.digit)

-- the names that fit a slot of the owner, in their order
abbrev pub fitting : List ℕ → Slot → List (List ℕ) → List (List ℕ)
fitting owner slot names = filter (λ name. is_slot slot (slot_at owner name)) names

-- the first ones that fit, as many as the width allows
abbrev pub first_fitting : SettingsValue → List ℕ → Slot → List (List ℕ) → List (List ℕ)
first_fitting p owner slot names = take p.width (fitting owner slot names)

-- settled links to these targets
abbrev pub settled_links : List (List ℕ) → SlotLinks
settled_links targets = map (λ target. record { target = target; kind = Settled }) targets

-- the table of an owner: in each slot settled links to the first of these names that fit it
abbrev pub table_at_rest : SettingsValue → List ℕ → List (List ℕ) → TableValue
table_at_rest p owner names =
    record {
      owner = owner;
      settings = p;
      slots = map
          (λ number. settled_links (first_fitting p owner (slot_numbered p.base number) names))
          (range_with_len 0 (p.base * p.digits));
    }

-- the table of a member, so made, has a link to the owner
abbrev pub holds : SettingsValue → List ℕ → List (List ℕ) → List ℕ → Bool
holds p owner names member =
    list_any (λ link. pointwise nat_eq link owner) (first_fitting p member (place_of member owner) names)

-- what the owner has heard of its holders: each member that holds it has said so, with version 0
abbrev pub holders_at_rest : SettingsValue → List ℕ → List (List ℕ) → List (List ℕ) → List (Entry (List ℕ) Bool)
holders_at_rest p owner names members =
    map (λ member. record { key = member; version = 0; value = true }) (filter (holds p owner names) members)

-- the ties of an owner at rest over the members, which are taken in ascending order
abbrev pub ties_at_rest : SettingsValue → List ℕ → List (List ℕ) → TiesValue
ties_at_rest p owner members =
    record { table = table_at_rest p owner (sorted members); holders = holders_at_rest p owner (sorted members) (sorted members) }

-- These links are the `width` least members that fit a slot of the owner, ascending; all that fit, if they are fewer.
pub record AreLeastFitting (width : ℕ) (owner : List ℕ) (slot : Slot)
    (members links : List (List ℕ)) : Type 0 where
  pub ascending : AllPairs IsBelow links
  pub few : length links ≤ width
  -- each link is a member that fits
  pub fitting : (link : List ℕ) → Among link links → Among link members × Fits owner link slot
  -- each member that fits is a link, unless there are `width` links, all below it
  pub least : (member : List ℕ) → Among member members → Fits owner member slot
      → Among member links ⊎ (length links ≡ width) × All (λ link. IsBelow link member) links

-- The table of an owner at rest over the members: the one over their names in ascending order. There the first ones that
-- fit a slot are the least ones.
pub record IsTableAtRest (p : SettingsValue) (owner : List ℕ) (members : List (List ℕ)) (table : TableValue) : Type 0 where
  pub names : List (List ℕ)
  pub same : IsPermutation members names
  pub ascending : AllPairs IsBelow names
  pub is : table ≡ table_at_rest p owner names

-- The ties of an owner at rest over the members: its table, and what it has heard of its holders, over the same names.
pub record AreAtRest (p : SettingsValue) (owner : List ℕ) (members : List (List ℕ)) (ties : TiesValue) : Type 0 where
  pub table : IsTableAtRest p owner members ties.table
  pub holders : ties.holders ≡ holders_at_rest p owner table.names table.names
