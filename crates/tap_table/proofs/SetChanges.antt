-- The sets behind a table: what a change of the set near a name makes of the table.
use Rattle.std.proofs.Common.{◌≡◌, ◌≢◌, ℕ, ◌<◌, Bool, Result, Ok, Err, List, [], length, get_or, map, set, All, arith, ap, sym, subst, ◌∙◌}
use Rattle.std.specs.Prelude.{OnErr, OnOk}
use Rattle.std.proofs.Math.Nat.{mul-le-mul_left}
use Rattle.std.proofs.lemmas.List.{length-map, map-set}
use Rattle.std.proofs.lemmas.List.Elements.{All-get_or, All-set}
use Rattle.tap_name.specs.Name.{IsName}
use Rattle.tap_name.specs.Settings.{SettingsValue}
use Rattle.tap_link.specs.LinkSet.{LinkSetValue}
use Rattle.tap_table.specs.declared.memory.NoMemory.{NoMemory}
use Rattle.tap_table.specs.Sets.{set_in}
use Rattle.tap_table.specs.Table.{AreSets, IsTable, SlotLinks, TableValue, near, set_numbered, table_of, with_near}
use Rattle.tap_table.proofs.Near.{number_near, within_slots}
use Rattle.tap_table.proofs.Slots.{links_of_set}

-- A table, the sets behind it, and the number of the slot in which a name stands, another one than the owner.
pub record IsNear (owner : List ℕ) (p : SettingsValue) (sets : List (LinkSetValue (List ℕ))) (t : TableValue) (name : List ℕ)
    (number : ℕ) : Type 0 where
  pub view : table_of owner p sets ≡ t
  pub are : AreSets owner p sets
  pub is_name : IsName t.settings name
  pub other : name ≢ t.owner
  pub place : number ≡ number_near t name

module _ {owner : List ℕ} {p : SettingsValue} {sets : List (LinkSetValue (List ℕ))} {t : TableValue} {name : List ℕ} {number : ℕ}
    (is : IsNear owner p sets t name number) where
  pub is_table : IsTable t
  is_table = subst IsTable is.view is.are.valid

  pub within_sets : number < length sets
  within_sets =
      let inside = within_slots t name is_table is.is_name is.other in
      let len = length-map sets (λ (s : LinkSetValue (List ℕ)). s.links) in
      let slots : length (map (λ (s : LinkSetValue (List ℕ)). s.links) sets) ≡ length t.slots = ap (λ u. length u.slots) is.view in
      let place = is.place in
      omega (arith, inside, len, slots, place)

  pub few_sets : number < 640
  few_sets =
      let wide = mul-le-mul_left p.base is.are.valid.limits.digits_to in
      let base = is.are.valid.limits.base_to in
      let len = length-map sets (λ (s : LinkSetValue (List ℕ)). s.links) in
      let count = is.are.valid.count in
      omega (arith, within_sets, wide, base, len, count)

  -- the set of this number is the one near the name
  pub near_at : (d : LinkSetValue (List ℕ)) → get_or sets number d ≡ near t name
  near_at d =
      let set = get_or sets number d in
      let width = All-get_or (λ s. s.width ≡ p.width) sets number d within_sets is.are.widths in
      let links = links_of_set sets number d within_sets in
      let of_width : ℕ → LinkSetValue (List ℕ) = λ w. record { width = w; links = set.links } in
      let of_links : SlotLinks → LinkSetValue (List ℕ) = λ l. record { width = p.width; links = l } in
      ap of_width width ∙ ap of_links (sym links) ∙ ap (λ u. set_numbered u number) is.view ∙ ap (set_numbered t) is.place

  pub near_is : set_in sets number ≡ near t name
  near_is = near_at (record { width = 0; links = [] })

  module _ (change : LinkSetValue (List ℕ) → LinkSetValue (List ℕ)) (new : List (LinkSetValue (List ℕ))) where
    -- a change of the set there is the same change of the set near the name
    pub table_after : new ≡ set sets number (change (set_in sets number))
        → table_of owner p new ≡ with_near t name (change (near t name))
    table_after changed =
        let after = change (set_in sets number) in
        let of_slots : List SlotLinks → TableValue = λ slots. record { owner = owner; settings = p; slots = slots } in
        let slots : map (λ s. s.links) new ≡ set (map (λ s. s.links) sets) number after.links =
        ap (map (λ s. s.links)) changed ∙ map-set (λ s. s.links) sets number after in
        let with_slots : TableValue → TableValue = λ u. record u { slots = set u.slots number after.links } in
        let at : ℕ → TableValue = λ n. record t { slots = set t.slots n after.links } in
        ap of_slots slots ∙ ap with_slots is.view ∙ ap at is.place ∙ ap (λ s. with_near t name (change s)) near_is

    pub sets_after : new ≡ set sets number (change (set_in sets number))
        → ((s : LinkSetValue (List ℕ)) → (change s).width ≡ s.width)
        → IsTable (with_near t name (change (near t name))) → AreSets owner p new
    sets_after changed width table =
        let after = change (set_in sets number) in
        let old = All-get_or (λ s. s.width ≡ p.width) sets number (record { width = 0; links = [] }) within_sets is.are.widths in
        let wide : after.width ≡ p.width = width (set_in sets number) ∙ old in
        let Wide : List (LinkSetValue (List ℕ)) → Type 0 = All (λ s. s.width ≡ p.width) in
        record {
          valid = subst IsTable (sym (table_after changed)) table;
          widths = subst Wide (sym changed) (All-set (λ s. s.width ≡ p.width) sets number after wide is.are.widths);
        }

    -- after a call that may be refused
    pub sets_after_result : (answer : Result Bool NoMemory) → OnOk answer (new ≡ set sets number (change (set_in sets number)))
        → OnErr answer (new ≡ sets) → ((s : LinkSetValue (List ℕ)) → (change s).width ≡ s.width)
        → IsTable (with_near t name (change (near t name))) → AreSets owner p new
    sets_after_result (Ok added) changed same width table = sets_after changed width table
    sets_after_result (Err e) changed same width table = subst (AreSets owner p) (sym same) is.are

    pub table_after_result : (answer : Result Bool NoMemory) → OnOk answer (new ≡ set sets number (change (set_in sets number)))
        → OnOk answer (table_of owner p new ≡ with_near t name (change (near t name)))
    table_after_result (Ok added) changed = table_after changed
    table_after_result (Err e) changed = tt
