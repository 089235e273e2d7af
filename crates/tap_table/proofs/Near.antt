-- What another set in the slot of a name does to a table.
-- Cited above: apart_names, links_elsewhere, links_here, number_near, tied_itself, tied_names
use Rattle.std.proofs.Common.{◌≡◌, ◌≢◌, ℕ, ◌<◌, true, false, List, [], length, get_or, All, arith, ap, sym, refl, subst, ◌∙◌, inl, inr}
use Rattle.std.specs.Ordering.{is_eq}
use Rattle.std.proofs.lemmas.Bool.{cases_Bool, cases_eq}
use Rattle.std.proofs.lemmas.List.{get_or-set_same, get_or-set_other, length-set, set-get_or}
use Rattle.std.proofs.lemmas.Map.Text.{is_eq-slice_cmp}
use Rattle.std.proofs.lemmas.Slice.Eq.{bytes_eq-Decides}
use Rattle.tap_name.specs.declared.slot.Slot.{Slot}
use Rattle.tap_name.specs.Name.{IsName}
use Rattle.tap_link.specs.LinkSet.{IsLinkSet, LinkSetValue, kind_of}
use Rattle.tap_table.specs.Table.{IsTable, SlotLinks, StandsIn, TableValue, kind_in, name_cmp, near, place_of, set_at, slot_number, slot_numbered, with_near}
use Rattle.tap_table.proofs.Slots.{number_back, place_inside, target_inside}

-- names that compare as equal are one
pub tied_names : (a b : List ℕ) → is_eq (name_cmp a b) ≡ true → a ≡ b
tied_names a b tied = (bytes_eq-Decides a b).0 (sym (is_eq-slice_cmp a b) ∙ tied)

pub tied_itself : (a : List ℕ) → is_eq (name_cmp a a) ≡ true
tied_itself a = is_eq-slice_cmp a a ∙ (bytes_eq-Decides a a).1 refl

pub apart_names : (a b : List ℕ) → a ≢ b → is_eq (name_cmp a b) ≡ false
apart_names a b apart =
    elim (cases_Bool (is_eq (name_cmp a b))) [ inl tied ↦ absurd (apart (tied_names a b tied)) | inr e ↦ e ]

-- the number of the slot in which a name stands
abbrev pub number_near : TableValue → List ℕ → ℕ
number_near t name = slot_number t.settings.base (place_of t.owner name)

-- the same set in the slot is the same table
pub with_near_same : (t : TableValue) (name : List ℕ) → with_near t name (near t name) ≡ t
with_near_same t name =
    let with : List SlotLinks → TableValue = λ slots. record { owner = t.owner; settings = t.settings; slots = slots } in
    ap with (set-get_or t.slots (number_near t name) [])

module _ (t : TableValue) (name : List ℕ) (valid : IsTable t) (is_name : IsName t.settings name) (apart : name ≢ t.owner) where
  pub within_slots : number_near t name < length t.slots
  within_slots =
      let below = target_inside t.settings t.owner name valid.owner is_name apart in
      let count = valid.count in
      omega (arith, below, count)

  module _ (new : LinkSetValue (List ℕ)) where
    -- the slot has the links of the set, and the others have theirs
    pub links_here : get_or (with_near t name new).slots (number_near t name) [] ≡ new.links
    links_here = get_or-set_same t.slots (number_near t name) new.links [] within_slots

    pub links_elsewhere : (k : ℕ) → k ≢ number_near t name → get_or (with_near t name new).slots k [] ≡ get_or t.slots k []
    links_elsewhere k ne = get_or-set_other t.slots (number_near t name) k new.links [] ne

    -- what holds of the new links, and of the links of each slot, holds of those of each slot after
    each_slot : (P : ℕ → SlotLinks → Type 0) → P (number_near t name) new.links → ((k : ℕ) → P k (get_or t.slots k []))
        → (k : ℕ) → P k (get_or (with_near t name new).slots k [])
    each_slot P here others k =
        elim (cases_eq k (number_near t name)) [
          | inl is ↦
              let Q : ℕ → Type 0 = λ n. P n (get_or (with_near t name new).slots n []) in
              subst Q (sym is) (subst (P (number_near t name)) (sym links_here) here)
          | inr ne ↦ subst (P k) (sym (links_elsewhere k ne)) (others k)
        ]

    -- a table stays one where the set is a link set of its width, and each target stands in the slot
    pub IsTable-with_near : IsLinkSet name_cmp (record { width = t.settings.width; links = new.links })
        → All (λ e. StandsIn t.settings t.owner (number_near t name) e.target) new.links → IsTable (with_near t name new)
    IsTable-with_near set_is stand =
        let Stand : ℕ → SlotLinks → Type 0 = λ k links. All (λ e. StandsIn t.settings t.owner k e.target) links in
        let Set : ℕ → SlotLinks → Type 0 = λ k links. IsLinkSet name_cmp (record { width = t.settings.width; links = links }) in
        record {
          limits = valid.limits;
          owner = valid.owner;
          count = length-set t.slots (number_near t name) new.links ∙ valid.count;
          standing = each_slot Stand stand valid.standing;
          sets = each_slot Set set_is valid.sets;
        }

    -- the kind of the name is the one that the set has for it
    pub kind_here : kind_in (with_near t name new) name ≡ kind_of name_cmp new.links name
    kind_here = ap (λ l. kind_of name_cmp l name) links_here

    -- the set of another slot stays
    pub set_elsewhere : (slot : Slot) → slot.digit < t.settings.base → slot ≢ place_of t.owner name
        → set_at (with_near t name new) slot ≡ set_at t slot
    set_elsewhere slot below ne =
        let set_of : SlotLinks → LinkSetValue (List ℕ) = λ links. record { width = t.settings.width; links = links } in
        let digit = (place_inside t.settings t.owner name valid.owner is_name apart).1 in
        let differs : slot_number t.settings.base slot ≢ number_near t name = λ same.
        ne (sym (number_back t.settings.base slot below) ∙ ap (slot_numbered t.settings.base) same
        ∙ number_back t.settings.base (place_of t.owner name) digit) in
        ap set_of (links_elsewhere (slot_number t.settings.base slot) differs)
