-- A link that is added changes primaries of its level alone, so that each pair whose way doesn't pass that level stays laid as wanted.
use Rattle.std.proofs.Common.{◌≡◌, ◌≢◌, ℕ, ◌<◌, false, List, [], ◌∷◌, get_or, refl, sym, ap, ◌∙◌, inl, inr, arith}
use Rattle.std.specs.Option.{is_some}
use Rattle.std.proofs.lemmas.Bool.{cases_Bool, or_left}
use Rattle.std.proofs.lemmas.List.Elements.{All-cons, All-nil}
use Rattle.tap_name.specs.declared.slot.Slot.{Slot}
use Rattle.tap_name.specs.Name.{IsName}
use Rattle.tap_link.specs.LinkSet.{offered as set_offered}
use Rattle.tap_table.specs.Next.{primary_at}
use Rattle.tap_table.specs.Table.{IsTable, TableValue, name_cmp, near, offered, place_of, slot_number, slot_numbered}
use Rattle.tap_table.proofs.Near.{number_near}
use Rattle.tap_table.proofs.Primaries.{primary_elsewhere}
use Rattle.tap_table.proofs.Slots.{number_back, place_inside}
use Rattle.tap_pointer.specs.declared.pair.Pair.{Pair}
use Rattle.tap_pointer.specs.declared.state.PairState.{PairState}
use Rattle.tap_pointer.specs.Pointers.{PointersValue, is_held}
use Rattle.tap_pointer.specs.Reconcile.{AreLaid, AreLaidBeside, AreNamesHeld, hop_from, passes, wanted_hop}
use Rattle.tap_pointer.proofs.Beside.{laid_beside}
use Rattle.tap_pointer.proofs.Levels.{no_level}

module _ (t : TableValue) (name : List ℕ) (valid : IsTable t) (is_name : IsName t.settings name) (other : name ≢ t.owner) where
  abbrev own_place : Slot
  own_place = place_of t.owner name

  apart_numbers : (level digit : ℕ) → level ≢ own_place.level → digit < t.settings.base
      → slot_number t.settings.base (record { level = level; digit = digit }) ≢ number_near t name
  apart_numbers level digit ne below same =
      let slot : Slot = record { level = level; digit = digit } in
      let there = number_back t.settings.base slot below in
      let here = number_back t.settings.base own_place (place_inside t.settings t.owner name valid.owner is_name other).1 in
      ne (ap (λ (s : Slot). s.level) (sym there ∙ ap (slot_numbered t.settings.base) same ∙ here))

  primary_beside : (level digit : ℕ) → level ≢ own_place.level → digit < t.settings.base
      → primary_at t level digit ≡ primary_at (offered t name) level digit
  primary_beside level digit ne below =
      sym (primary_elsewhere t name valid is_name other (set_offered name_cmp (near t name) name) level digit
      (apart_numbers level digit ne below))

  -- one pair
  one_beside : (owner : List ℕ) (e : Pair × PairState) → IsName t.settings e.0.object → e.1.laid ≡ wanted_hop t e
      → passes t.owner own_place.level e ≡ false → e.1.laid ≡ wanted_hop (offered t name) e
  one_beside owner e named laid off =
      let one : PointersValue = record { owner = owner; pairs = e ∷ [] } in
      let beside : AreLaidBeside (offered t name) own_place.level one =
      laid_beside t (offered t name) refl refl own_place.level primary_beside one
      (All-cons (λ x. IsName t.settings x.0.object) e [] named (All-nil (λ x. IsName t.settings x.0.object)))
      (All-cons (λ x. x.1.laid ≡ wanted_hop t x) e [] laid (All-nil (λ x. x.1.laid ≡ wanted_hop t x))) in
      beside 0 e (omega arith) off

  pub laid-offered_beside : (pointers : PointersValue) → AreNamesHeld t.settings pointers → AreLaid t pointers
      → AreLaidBeside (offered t name) own_place.level pointers
  laid-offered_beside pointers names laid = λ k d within off.
      let e : Pair × PairState = get_or pointers.pairs k d in
      elim (cases_Bool (is_held e.1)) [
        | inl held ↦ one_beside pointers.owner e (names k d within (or_left (is_held e.1) (is_some e.1.laid) held)) (laid k d within) off
        | inr apart ↦
            let none = no_level e.1 apart in
            laid k d within ∙ ap (hop_from t e.0.object) none ∙ sym (ap (hop_from (offered t name) e.0.object) none)
      ]
