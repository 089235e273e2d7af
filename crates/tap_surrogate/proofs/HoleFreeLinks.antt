-- links to core nodes leave no hole
use Rattle.std.proofs.Common.{◌≡◌, ◌≢◌, inl, inr, ℕ, ◌<◌, true, None, Some, List, [], ◌∷◌, map, filter, length, nat_eq, subst}
use Rattle.std.specs.List.{common_prefix_len}
use Rattle.std.specs.Option.{is_some}
use Rattle.std.specs.Ordering.{is_eq}
use Rattle.std.proofs.lemmas.Bool.{cases_Bool, eq-eqb, lt-ltb}
use Rattle.tap_name.specs.declared.slot.Slot.{Slot}
use Rattle.tap_name.specs.Name.{IsName}
use Rattle.tap_name.specs.Settings.{SettingsValue}
use Rattle.tap_name.specs.Slot.{Fits}
use Rattle.tap_name.specs.Root.{Among}
use Rattle.tap_name.proofs.Names.{among-filter_from}
use Rattle.tap_name.proofs.Prefix.{prefix_of_itself}
use Rattle.tap_link.specs.LinkSet.{kind_of}
use Rattle.tap_table.specs.Table.{SlotLinks, TableValue, kind_in, links_at, name_cmp, place_of}
use Rattle.tap_table.proofs.Near.{tied_names}
use Rattle.tap_table.proofs.Slots.{place_inside}
use Rattle.tap_surrogate.specs.HoleFree.{IsHoleFree}
use Rattle.tap_surrogate.specs.Nodes.{IsCore, Nodes, core_links}
use Rattle.tap_surrogate.proofs.Least.{place_where_it_fits}
use Rattle.tap_surrogate.proofs.Standing.{HaveTables, hole_free_where_filled}

-- a name that a look-up finds is among the targets
pub linked_among : (links : SlotLinks) (name : List ℕ) → is_some (kind_of name_cmp links name) ≡ true
    → Among name (map (λ e. e.target) links)
linked_among [] name linked = cc
linked_among (e ∷ es) name linked =
    elim (cases_Bool (is_eq (name_cmp name e.target))) [
      | inl tied ↦ inl (tied_names name e.target tied)
      | inr apart ↦ let later : is_some (kind_of name_cmp es name) ≡ true = rw apart at linked in inr (linked_among es name later)
    ]

-- A table has a link to a core node in a slot.
pub record HasCoreLink (nodes : Nodes) (table : TableValue) (slot : Slot) : Type 0 where
  pub to : List ℕ
  pub core : IsCore nodes to
  pub linked : is_some (kind_in table to) ≡ true
  pub place : place_of table.owner to ≡ slot

-- no name fits a slot of itself
fits_other : (a b : List ℕ) (slot : Slot) → Fits a b slot → b ≢ a
fits_other a b slot fits same =
    let itself : Fits a a slot = subst (λ x. Fits a x slot) same fits in
    let whole = eq-eqb (common_prefix_len nat_eq a a) (length a) (prefix_of_itself a) in
    let wrong : None ≡ Some slot = rw whole at itself in
    cc

not_empty : (names : List (List ℕ)) (name : List ℕ) → Among name names → names ≢ []
not_empty names name among none = subst (Among name) none among

-- then the slot has a core link
core_link-from : (nodes : Nodes) (table : TableValue) (node : List ℕ) (slot : Slot) → nodes.table_of node ≡ Some table
    → slot.digit < table.settings.base → HasCoreLink nodes table slot → core_links nodes node slot ≢ []
core_link-from nodes table node slot is below link =
    let IsLinked : Slot → Type 0 = λ s. is_some (kind_of name_cmp (links_at table s) link.to) ≡ true in
    let found = subst IsLinked link.place link.linked in
    let targets : List (List ℕ) = map (λ e. e.target) (links_at table slot) in
    let core = among-filter_from nodes.core targets link.to (linked_among (links_at table slot) link.to found) link.core in
    let P : List (List ℕ) → Type 0 = λ names. names ≢ [] in
    rw (is, lt-ltb slot.digit table.settings.base below) (not_empty (filter nodes.core targets) link.to core)

-- So no table has a hole where each core node has, in the slot of each other one, a link to a core node.
pub hole_free_where_linked : (p : SettingsValue) (core : List (List ℕ)) (nodes : Nodes) → HaveTables p core nodes
    → ((a b : List ℕ) (table : TableValue) → Among a core → Among b core → b ≢ a → nodes.table_of a ≡ Some table
    → HasCoreLink nodes table (place_of a b))
    → IsHoleFree p core (core_links nodes)
hole_free_where_linked p core nodes have linked =
    hole_free_where_filled p core nodes have
    (λ a b slot a_core b_core fits.
    let w = have.tables a a_core in
    let table = w.0 in
    let other = fits_other a b slot fits in
    let link : HasCoreLink nodes table slot =
    subst (HasCoreLink nodes table) (place_where_it_fits a b slot fits) (linked a b table a_core b_core other w.1) in
    let name_of : (x : List ℕ) → Among x core → IsName p x = λ x among.
    let v = have.tables x among in
    let named : IsName v.0.settings v.0.owner = v.3.owner in
    rw (v.2.owner_is, v.2.settings_are) at named in
    let inside = (place_inside p a b (name_of a a_core) (name_of b b_core) other).1 in
    let IsInside : Slot → Type 0 = λ s. s.digit < p.base in
    let digit = subst IsInside (place_where_it_fits a b slot fits) inside in
    let below : slot.digit < table.settings.base = rw w.2.settings_are digit in
    core_link-from nodes table a slot w.1 below link)
