-- The links of a slot: what each stands beside, and the one at a place.
use Rattle.std.proofs.Common.{◌≡◌, ℕ, ◌<◌, zero, suc, Some, List, [], ◌∷◌, get_or, map, slice_get, All, sym, ◌∙◌}
use Rattle.std.proofs.lemmas.Option.{slice_get-get_or}
use Rattle.tap_name.specs.declared.slot.Slot.{Slot}
use Rattle.tap_link.specs.declared.kind.Kind.{Kind}
use Rattle.tap_table.specs.Table.{IsTable, SlotLinks, TableValue, links_at, place_of, slot_number}
use Rattle.tap_table.proofs.Found.{link_to, slot_is_own}
use Rattle.tap_table.proofs.Slots.{number_back}

-- the link at a place, by its target and its kind
pub link_got : (links : SlotLinks) (i : ℕ) (target : List ℕ) (kind : Kind) → slice_get (map (λ e. e.target) links) i ≡ Some target
    → slice_get (map (λ e. e.kind) links) i ≡ Some kind → slice_get links i ≡ Some (link_to target kind)
link_got [] i target kind targets kinds = cc
link_got (e ∷ links) zero target kind targets kinds =
    let name : e.target ≡ target = cc in
    let is : e.kind ≡ kind = cc in
    rw (← name, ← is) cc
link_got (e ∷ links) (suc i) target kind targets kinds = link_got links i target kind targets kinds

-- each link of a slot has this slot at the owner
pub links_stand : (t : TableValue) → IsTable t → (slot : Slot) → slot.digit < t.settings.base
    → All (λ e. place_of t.owner e.target ≡ slot) (links_at t slot)
links_stand t valid slot below k d within =
    let e = get_or (links_at t slot) k d in
    let number = slot_number t.settings.base slot in
    let got = slice_get-get_or (links_at t slot) k d within in
    sym (slot_is_own t valid number e k got) ∙ number_back t.settings.base slot below
