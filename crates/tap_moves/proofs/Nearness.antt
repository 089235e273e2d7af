-- The primary of the slot in which a name stands, by the digits that the names share.
-- Cited above: name_inside, primary_stands_near
use Rattle.std.proofs.Common.{◌≡◌, ◌≢◌, ℕ, ◌<◌, List, Some, arith}
use Rattle.tap_name.specs.Name.{IsName}
use Rattle.tap_name.specs.Prefix.{lcp}
use Rattle.tap_name.proofs.Prefixes.{lcp-is}
use Rattle.tap_link.specs.declared.kind.Kind.TheVariants.{Settled}
use Rattle.tap_table.specs.Table.{IsTable, TableValue, kind_in}
use Rattle.tap_table.proofs.Found.{linked_is_name}
use Rattle.tap_table.proofs.Primaries.{primary_near}
use Rattle.tap_table.proofs.Slots.{place_inside}
use Rattle.tap_safety.proofs.Names.{same_level, same_slot_near}
use Rattle.tap_multicast.proofs.Linked.{primary_near-stands}

module _ (table : TableValue) (valid : IsTable table) where
  -- another name shares less than all digits with the owner
  pub name_inside : (t : List ℕ) → IsName table.settings t → t ≢ table.owner → lcp table.owner t < table.settings.digits
  name_inside t name other =
      let inside = place_inside table.settings table.owner t valid.owner name other in
      omega (arith, lcp-is table.owner t, inside.0)

  -- a slot's primary is settled, shares as much with the owner as a name of the slot, and more with that name
  pub primary_stands_near : (t first : List ℕ) → IsName table.settings t → t ≢ table.owner → primary_near table t ≡ Some first
      → (kind_in table first ≡ Some Settled) × (lcp table.owner first ≡ lcp table.owner t) × (lcp table.owner t < lcp t first)
  primary_stands_near t first name other is =
      let stands = primary_near-stands table valid t first name other is in
      let first_name = linked_is_name table valid first Settled stands.0 in (
        stands.0,
        same_level table.owner t first stands.1,
        same_slot_near table.settings table.owner t first name first_name (name_inside t name other) stands.1,
      )
