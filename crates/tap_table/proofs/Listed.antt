-- The rows of a table are the links that look-ups find.
use Rattle.std.proofs.Common.{◌≡◌, ℕ, ◌+◌, ◌-◌, ◌<◌, zero, suc, Some, List, [], ◌∷◌, length, get_or, slice_get, arith, ap, sym, ◌∙◌, inl, inr}
use Rattle.std.specs.List.{enumerate_from, flat_map}
use Rattle.std.specs.Option.{option_map}
use Rattle.std.proofs.lemmas.Bool.{cases_lt}
use Rattle.std.proofs.lemmas.List.{length-map}
use Rattle.std.proofs.lemmas.Option.{slice_get-map, slice_get_within}
use Rattle.tap_name.specs.declared.slot.Slot.{Slot}
use Rattle.tap_link.specs.declared.kind.Kind.{Kind}
use Rattle.tap_link.specs.Entry.{LinkEntry}
use Rattle.tap_table.specs.Table.{IsTable, Row, SlotLinks, TableValue, kind_in, links_near, place_of, rows, rows_of, slot_numbered}
use Rattle.tap_table.proofs.Found.{kind_of_target, link_found, link_to, linked_is_name, linked_is_other, slot_is_own}
use Rattle.tap_table.proofs.Near.{number_near, within_slots}
use Rattle.tap_table.proofs.RowLists.{slice_get_front, slice_get_after}

-- a row of a link
abbrev pub row_at : Row → ℕ → ℕ → LinkEntry (List ℕ) → Type 0
row_at row base number e = row ≡ record { slot = slot_numbered base number; entry = e }

-- where a row comes from: the number of its slot, and its place there
pub record IsFrom (base n : ℕ) (slots : List SlotLinks) (row : Row) (number link : ℕ) : Type 0 where
  pub got : slice_get (get_or slots number []) link ≡ Some row.entry
  pub slot : row.slot ≡ slot_numbered base (n + number)

abbrev rows_from : ℕ → ℕ → List SlotLinks → List Row
rows_from base n slots = flat_map (rows_of base) (enumerate_from n slots)

-- the row at a place of one slot
row_of_link : (base n : ℕ) (links : SlotLinks) (i : ℕ) (row : Row) → slice_get (rows_of base (n, links)) i ≡ Some row
    → (slice_get links i ≡ Some row.entry) × (row.slot ≡ slot_numbered base n)
row_of_link base n [] i row got = cc
row_of_link base n (e ∷ links) zero row got =
    let is : record { slot = slot_numbered base n; entry = e } ≡ row = cc in
    (ap (λ (r : Row). Some r.entry) is, ap (λ (r : Row). r.slot) (sym is))
row_of_link base n (e ∷ links) (suc i) row got = row_of_link base n links i row got

pub row_from : (base n : ℕ) (slots : List SlotLinks) (i : ℕ) (row : Row) → slice_get (rows_from base n slots) i ≡ Some row
    → (number : ℕ) × (link : ℕ) × IsFrom base n slots row number link
row_from base n [] i row got = cc
row_from base n (links ∷ slots) i row got =
    let len : length (rows_of base (n, links)) ≡ length links = length-map links _ in
    elim (cases_lt i (length links)) [
      | inl front ↦
          let here = row_of_link base n links i row
          (sym (slice_get_front (rows_of base (n, links)) (rows_from base (n + 1) slots) i (omega arith)) ∙ got) in
          let slot : row.slot ≡ slot_numbered base (n + 0) = here.1 ∙ ap (slot_numbered base) (omega arith) in
          (0, i, record { got = here.0; slot = slot })
      | inr later ↦
          let rest = row_from base (n + 1) slots (i - length links) row
          (sym (slice_get_after (rows_of base (n, links)) (rows_from base (n + 1) slots) i (i - length links) (omega arith)) ∙ got) in
          let slot : row.slot ≡ slot_numbered base (n + suc rest.0) = rest.2.slot ∙ ap (slot_numbered base) (omega arith) in
          (suc rest.0, rest.1, record { got = rest.2.got; slot = slot })
    ]

-- each link of a slot has its row
pub row_to : (base n : ℕ) (slots : List SlotLinks) (number link : ℕ) (e : LinkEntry (List ℕ)) → number < length slots
    → slice_get (get_or slots number []) link ≡ Some e
    → (i : ℕ) × (slice_get (rows_from base n slots) i ≡ Some (record { slot = slot_numbered base (n + number); entry = e }))
row_to base n [] number link e within got = absurd (omega arith)
row_to base n (links ∷ slots) zero link e within got =
    let len : length (rows_of base (n, links)) ≡ length links = length-map links _ in
    let inside = slice_get_within links link e got in
    let of_entry : LinkEntry (List ℕ) → Row = λ f. record { slot = slot_numbered base n; entry = f } in
    let of_slot : ℕ → Row = λ k. record { slot = slot_numbered base k; entry = e } in
    let here : slice_get (rows_of base (n, links)) link ≡ Some (of_slot (n + 0)) =
    slice_get-map of_entry links link ∙ ap (option_map of_entry) got ∙ ap (λ k. Some (of_slot k)) (omega arith) in
    (link, slice_get_front (rows_of base (n, links)) (rows_from base (n + 1) slots) link (omega arith) ∙ here)
row_to base n (links ∷ slots) (suc number) link e within got =
    let len : length (rows_of base (n, links)) ≡ length links = length-map links _ in
    let rest = row_to base (n + 1) slots number link e (omega arith) got in
    let of_slot : ℕ → Row = λ k. record { slot = slot_numbered base k; entry = e } in
    let after = slice_get_after (rows_of base (n, links)) (rows_from base (n + 1) slots) (length links + rest.0) rest.0 (omega arith) in
    (length links + rest.0, after ∙ rest.1 ∙ ap (λ k. Some (of_slot k)) (omega arith))

module _ (t : TableValue) (valid : IsTable t) where
  -- what a row says of its target is what look-ups find
  pub row_is_found : (i : ℕ) (row : Row) → slice_get (rows t) i ≡ Some row
      → (kind_in t row.entry.target ≡ Some row.entry.kind) × (row.slot ≡ place_of t.owner row.entry.target)
  row_is_found i row got =
      let from = row_from t.settings.base 0 t.slots i row got in
      let is = from.2 in (
        kind_of_target t valid from.0 row.entry from.1 is.got,
        is.slot ∙ ap (slot_numbered t.settings.base) (omega arith) ∙ slot_is_own t valid from.0 row.entry from.1 is.got,
      )

  -- what look-ups find has a row
  pub found_has_row : (name : List ℕ) (kind : Kind) → kind_in t name ≡ Some kind
      → (i : ℕ) × (slice_get (rows t) i ≡ Some (record { slot = place_of t.owner name; entry = link_to name kind }))
  found_has_row name kind found =
      let link = link_found (links_near t name) name kind found in
      let is_name = linked_is_name t valid name kind found in
      let other = linked_is_other t valid name kind found in
      let row = row_to t.settings.base 0 t.slots (number_near t name) link.0 (link_to name kind)
      (within_slots t name valid is_name other) link.1 in
      let own = slot_is_own t valid (number_near t name) (link_to name kind) link.0 link.1 in
      let of : Slot → Row = λ s. record { slot = s; entry = link_to name kind } in
      let number : 0 + number_near t name ≡ number_near t name = omega arith in
      (row.0, row.1 ∙ ap (λ n. Some (of (slot_numbered t.settings.base n))) number ∙ ap (λ s. Some (of s)) own)
