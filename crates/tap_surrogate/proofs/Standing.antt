-- each link of a table stands in its own slot
use Rattle.std.proofs.Common.{◌≡◌, ◌≢◌, inl, inr, ℕ, ◌+◌, ◌*◌, ◌<◌, nat_lt, nat_eq, Some, List, [], ◌∷◌, length, get_or, map, All, arith, sym, ap, subst, ◌∙◌, ◌↔◌}
use Rattle.std.specs.List.{common_prefix_len}
use Rattle.std.proofs.lemmas.Bool.{cases_Bool, cases_lt, ltb-true}
use Rattle.std.proofs.lemmas.List.{get_or_past}
use Rattle.std.proofs.lemmas.List.Elements.{All-head, All-tail}
use Rattle.tap_name.specs.declared.slot.Slot.{Slot}
use Rattle.tap_name.specs.Name.{IsName}
use Rattle.tap_name.specs.Settings.{SettingsValue}
use Rattle.tap_name.specs.Slot.{Fits}
use Rattle.tap_name.specs.Root.{Among}
use Rattle.tap_name.proofs.Names.{among-filter}
use Rattle.tap_name.proofs.Prefix.{prefix_of_itself}
use Rattle.tap_table.specs.Table.{IsTable, SlotLinks, TableValue, StandsIn, links_at, place_of, slot_number, slot_numbered}
use Rattle.tap_table.proofs.Fitting.{slot_of_other}
use Rattle.tap_table.proofs.Slots.{number_back, place_inside}
use Rattle.tap_surrogate.specs.HoleFree.{IsHoleFree}
use Rattle.tap_surrogate.specs.Nodes.{Nodes, IsCore, IsTableOf, core_links, links_in}

among_targets : (P : List ℕ → Type 0) (links : SlotLinks) → All (λ e. P e.target) links → (b : List ℕ)
    → Among b (map (λ e. e.target) links) → P b
among_targets P [] all b among = absurd among
among_targets P (e ∷ links) all b (inl is) = subst P (sym is) (All-head (λ e. P e.target) e links all)
among_targets P (e ∷ links) all b (inr later) = among_targets P links (All-tail (λ e. P e.target) e links all) b later

-- no slot of the table has the number at which its owner would stand
owner_outside : (p : SettingsValue) (owner : List ℕ) (number : ℕ) → IsName p owner → number < p.base * p.digits
    → slot_number p.base (place_of owner owner) ≡ number → ⊥
owner_outside p owner number is_owner inside is =
    let level : common_prefix_len nat_eq owner owner ≡ p.digits = prefix_of_itself owner ∙ is_owner.len in
    let number_at : ℕ → ℕ = λ l. l * p.base + get_or owner l 0 in
    let outside : p.digits * p.base + get_or owner p.digits 0 ≡ number = sym (ap number_at level) ∙ is in
    omega (arith, outside, inside)

-- a name that stands at a slot's number fits the slot
fits_where_it_stands : (p : SettingsValue) (owner b : List ℕ) (slot : Slot) → IsName p owner → slot.digit < p.base
    → slot_number p.base slot < p.base * p.digits → StandsIn p owner (slot_number p.base slot) b → Fits owner b slot
fits_where_it_stands p owner b slot is_owner below inside stands =
    let other : b ≢ owner = λ same.
    let P : List ℕ → Type 0 = λ x. slot_number p.base (place_of owner x) ≡ slot_number p.base slot in
    owner_outside p owner (slot_number p.base slot) is_owner inside (subst P same stands.place) in
    let place = place_of owner b in
    let digit = (place_inside p owner b is_owner stands.is_name other).1 in
    let same : place ≡ slot =
    sym (number_back p.base place digit) ∙ ap (slot_numbered p.base) stands.place ∙ number_back p.base slot below in
    slot_of_other p owner b is_owner stands.is_name other ∙ ap Some same

-- each target in a slot is a name that fits it
pub target_fits : (table : TableValue) (slot : Slot) (b : List ℕ) → IsTable table
    → Among b (map (λ e. e.target) (links_in (Some table) slot))
    → Fits table.owner b slot × IsName table.settings b
target_fits table slot b valid among =
    let p = table.settings in
    let number = slot_number p.base slot in
    elim (cases_Bool (nat_lt slot.digit p.base)) [
      | inr none ↦ absurd (rw none at among)
      | inl test ↦
          let below : slot.digit < p.base = ltb-true slot.digit p.base test in
          let linked : Among b (map (λ e. e.target) (links_at table slot)) = rw test at among in
          let stands = among_targets (StandsIn p table.owner number) (links_at table slot) (valid.standing number) b linked in
          elim (cases_lt number (length table.slots)) [
            | inl within ↦
                let inside : number < p.base * p.digits = omega (arith, within, valid.count) in
                (fits_where_it_stands p table.owner b slot valid.owner below inside stands, stands.is_name)
            | inr past ↦
                let P : SlotLinks → Type 0 = λ links. Among b (map (λ e. e.target) links) in
                absurd (subst P (get_or_past table.slots number [] past) linked)
          ]
    ]

-- each core link stands in its own slot and is to a core node
pub core_link_fits : (nodes : Nodes) (table : TableValue) (node : List ℕ) (slot : Slot) (b : List ℕ) → IsTable table → table.owner ≡ node
    → nodes.table_of node ≡ Some table → Among b (core_links nodes node slot)
    → Fits node b slot × IsCore nodes b
core_link_fits nodes table node slot b valid owner is among =
    let w = among-filter nodes.core (map (λ e. e.target) (links_in (nodes.table_of node) slot)) b among in
    let fits = target_fits table slot b valid (rw is at w.0) in
    (subst (λ o. Fits o b slot) owner fits.0, w.1)

-- the core nodes are these, and each has a table of its own
pub record HaveTables (p : SettingsValue) (core : List (List ℕ)) (nodes : Nodes) : Type 0 where
  pub are : (name : List ℕ) → IsCore nodes name ↔ Among name core
  pub tables : (node : List ℕ) → Among node core
      → (table : TableValue) × (nodes.table_of node ≡ Some table) × IsTableOf p node table × IsTable table

-- then no table has a hole as soon as each slot that a core node fits has a core link
pub hole_free_where_filled : (p : SettingsValue) (core : List (List ℕ)) (nodes : Nodes) → HaveTables p core nodes
    → ((a b : List ℕ) (slot : Slot) → Among a core → Among b core → Fits a b slot → core_links nodes a slot ≢ [])
    → IsHoleFree p core (core_links nodes)
hole_free_where_filled p core nodes have filled =
    record {
      names = λ x among.
          let w = have.tables x among in
          let named : IsName w.0.settings w.0.owner = w.3.owner in
          rw (w.2.owner_is, w.2.settings_are) at named;
      filled = filled;
      sound = λ a b slot among link.
          let w = have.tables a among in
          let fits = core_link_fits nodes w.0 a slot b w.3 w.2.owner_is w.1 link in
          (fits.0, (have.are b).0 fits.1);
    }
