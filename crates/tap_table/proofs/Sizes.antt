-- How many links a table has after each of its changes.
-- Cited above: length-forgotten_rows, length-released_rows, length-removed_rows
use Rattle.std.proofs.Common.{◌≡◌, ◌≢◌, ◌&&◌, ℕ, ◌+◌, not, List, [], length, arith}
use Rattle.std.specs.Option.{is_none}
use Rattle.std.proofs.lemmas.Cmp.{nat_list_cmp_total}
use Rattle.std.proofs.lemmas.List.Sums.{sum_by-set}
use Rattle.tap_name.specs.Name.{IsName}
use Rattle.tap_link.specs.LinkSet.{LinkSetValue, is_pinned, is_settled_or_leaving}
use Rattle.tap_link.specs.LinkSet.{pinned as set_pinned, offered as set_offered, released as set_released, forgotten as set_forgotten, marked as set_marked, removed as set_removed}
use Rattle.tap_link.proofs.Sizes.{length-forgotten, length-marked, length-offered, length-pinned, length-released, length-removed, one_if}
use Rattle.tap_table.specs.Table.{IsTable, SlotLinks, TableValue, forgotten, has_room_near, kind_in, links_near, marked, name_cmp, near, offered, pinned, released, removed, rows, with_near}
use Rattle.tap_table.proofs.Near.{number_near, within_slots}
use Rattle.tap_table.proofs.RowLists.{length-rows}

module _ (t : TableValue) (name : List ℕ) (valid : IsTable t) (is_name : IsName t.settings name) (other : name ≢ t.owner) where
  -- as many more or fewer as in the slot of the name
  pub length-with_near : (new : LinkSetValue (List ℕ))
      → length (rows (with_near t name new)) + length (links_near t name) ≡ length (rows t) + length new.links
  length-with_near new =
      let len : SlotLinks → ℕ = λ links. length links in
      let sum = sum_by-set len t.slots (number_near t name) new.links [] (within_slots t name valid is_name other) in
      let now = length-rows t.settings.base 0 (with_near t name new).slots in
      let before = length-rows t.settings.base 0 t.slots in
      omega (arith, sum, now, before)

  abbrev old : LinkSetValue (List ℕ)
  old = near t name

  pub length-pinned_rows : length (rows (pinned t name)) ≡ one_if (is_none (kind_in t name)) + length (rows t)
  length-pinned_rows =
      omega (arith, length-with_near (set_pinned name_cmp old name), length-pinned name_cmp old name)

  pub length-offered_rows : length (rows (offered t name))
      ≡ one_if (is_none (kind_in t name) && has_room_near t name) + length (rows t)
  length-offered_rows =
      omega (arith, length-with_near (set_offered name_cmp old name), length-offered name_cmp old name)

  pub length-marked_rows : length (rows (marked t name)) ≡ length (rows t)
  length-marked_rows =
      omega (arith, length-with_near (set_marked name_cmp old name), length-marked name_cmp old name)

  pub length-released_rows : length (rows (released t name)) + one_if (is_pinned (kind_in t name) && not (has_room_near t name))
      ≡ length (rows t)
  length-released_rows =
      let ascending = (valid.sets (number_near t name)).ascending in
      let set = length-released name_cmp nat_list_cmp_total old name ascending in
      omega (arith, length-with_near (set_released name_cmp old name), set)

  pub length-forgotten_rows : length (rows (forgotten t name)) + one_if (is_pinned (kind_in t name)) ≡ length (rows t)
  length-forgotten_rows =
      let ascending = (valid.sets (number_near t name)).ascending in
      let set = length-forgotten name_cmp nat_list_cmp_total old name ascending in
      omega (arith, length-with_near (set_forgotten name_cmp old name), set)

  pub length-removed_rows : length (rows (removed t name)) + one_if (is_settled_or_leaving (kind_in t name)) ≡ length (rows t)
  length-removed_rows =
      let ascending = (valid.sets (number_near t name)).ascending in
      let set = length-removed name_cmp nat_list_cmp_total old name ascending in
      omega (arith, length-with_near (set_removed name_cmp old name), set)
