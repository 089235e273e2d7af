-- The first names that fit a slot, one name more.
-- Cited above: no_slot_of_itself, slot_of_other
use Rattle.std.proofs.Common.{◌≡◌, ◌≢◌, inl, inr, ℕ, ◌+◌, ◌*◌, ◌/◌, ◌%◌, ◌<◌, ◌≤◌, nat_lt, nat_eq, cond, true, false, None, Some, List, [], ◌∷◌, ◌++◌, length, take, get_or, refl, ap, sym, ◌∙◌, arith, eqb}
use Rattle.std.specs.List.{common_prefix_len}
use Rattle.std.proofs.lemmas.Nat.{div-add-mod', div-mul-add, mod-mul-add}
use Rattle.std.proofs.lemmas.Bool.{and_parts, and_from, cases_Bool, eq-eqb, eqb-true, ne_eqb}
use Rattle.std.proofs.lemmas.Bool.Decides.{nat_tests}
use Rattle.std.proofs.lemmas.List.{append-nil, take_all, take-append-le, length-take, length_push}
use Rattle.std.proofs.lemmas.List.Elements.{filter_more}
use Rattle.tap_name.specs.declared.slot.Slot.{Slot}
use Rattle.tap_name.specs.Name.{IsName}
use Rattle.tap_name.specs.Settings.{SettingsValue}
use Rattle.tap_name.specs.Slot.{slot_at}
use Rattle.tap_name.proofs.Prefix.{prefix_of_itself}
use Rattle.tap_table.specs.Members.{fitting, is_slot}
use Rattle.tap_table.specs.Table.{place_of, slot_number, slot_numbered}
use Rattle.tap_table.proofs.Slots.{place_inside}

-- the first few of a list with one more at its end
pub take-push : (n : ℕ) (xs : List (List ℕ)) (x : List ℕ)
    → take n (xs ++ x ∷ []) ≡ cond (nat_lt (length (take n xs)) n) (take n xs ++ x ∷ []) (take n xs)
take-push n xs x =
    let len = length-take n xs in
    elim (cases_Bool (nat_lt (length xs) n)) [
      | inl e ↦
          let few : length xs < n = grind (arith, nat_tests) in
          let all = take_all n xs (omega arith) in
          let whole = take_all n (xs ++ x ∷ []) (omega (arith, length_push xs x)) in
          rw (whole, all, e) refl
      | inr e ↦
          let many : n ≤ length xs = grind (arith, nat_tests) in
          let front = take-append-le n xs (x ∷ []) many in
          let full : length (take n xs) ≡ n = omega arith in
          rw (front, full) (grind (arith, nat_tests))
    ]

-- of one name more, which fits the slot
pub fitting-push : (owner : List ℕ) (slot : Slot) (names : List (List ℕ)) (i : ℕ) (d : List ℕ) → i < length names
    → is_slot slot (slot_at owner (get_or names i d)) ≡ true
    → fitting owner slot (take (i + 1) names) ≡ fitting owner slot (take i names) ++ get_or names i d ∷ []
fitting-push owner slot names i d within fits =
    filter_more (λ member. is_slot slot (slot_at owner member)) names i d within
    ∙ ap (λ b. fitting owner slot (take i names) ++ cond b (get_or names i d ∷ []) []) fits

-- of one name more, which doesn't
pub fitting-skip : (owner : List ℕ) (slot : Slot) (names : List (List ℕ)) (i : ℕ) (d : List ℕ) → i < length names
    → is_slot slot (slot_at owner (get_or names i d)) ≡ false
    → fitting owner slot (take (i + 1) names) ≡ fitting owner slot (take i names)
fitting-skip owner slot names i d within other =
    filter_more (λ member. is_slot slot (slot_at owner member)) names i d within
    ∙ ap (λ b. fitting owner slot (take i names) ++ cond b (get_or names i d ∷ []) []) other
    ∙ append-nil (fitting owner slot (take i names))

-- the owner stands in none of its slots
pub no_slot_of_itself : (owner : List ℕ) → slot_at owner owner ≡ None
no_slot_of_itself owner = rw (eq-eqb (common_prefix_len nat_eq owner owner) (length owner) (prefix_of_itself owner)) refl

-- another name stands in the slot of its place
pub slot_of_other : (p : SettingsValue) (owner name : List ℕ) → IsName p owner → IsName p name → name ≢ owner
    → slot_at owner name ≡ Some (place_of owner name)
slot_of_other p owner name is_owner is_name other =
    let inside = place_inside p owner name is_owner is_name other in
    let apart : common_prefix_len nat_eq owner name ≡ length owner → ⊥ = λ all. omega (arith, inside.0, all, is_owner.len) in
    rw (ne_eqb (common_prefix_len nat_eq owner name) (length owner) apart) refl

-- it fits the slot of its number alone
pub fits_own : (p : SettingsValue) (owner name : List ℕ) (number : ℕ) → IsName p owner → IsName p name → name ≢ owner
    → number ≡ slot_number p.base (place_of owner name) → is_slot (slot_numbered p.base number) (slot_at owner name) ≡ true
fits_own p owner name number is_owner is_name other is =
    let level = common_prefix_len nat_eq owner name in
    let digit = get_or name level 0 in
    let inside = place_inside p owner name is_owner is_name other in
    let same_level : level ≡ number / p.base = rw is (sym (div-mul-add level p.base digit inside.1)) in
    let same_digit : digit ≡ number % p.base = rw is (sym (mod-mul-add level p.base digit inside.1)) in
    rw (slot_of_other p owner name is_owner is_name other)
    (and_from _ _ (eq-eqb level (number / p.base) same_level) (eq-eqb digit (number % p.base) same_digit))

pub fits_no_other : (p : SettingsValue) (owner name : List ℕ) (number : ℕ) → IsName p owner → IsName p name → name ≢ owner
    → number ≢ slot_number p.base (place_of owner name) → is_slot (slot_numbered p.base number) (slot_at owner name) ≡ false
fits_no_other p owner name number is_owner is_name other ne =
    let level = common_prefix_len nat_eq owner name in
    let digit = get_or name level 0 in
    elim (cases_Bool (is_slot (slot_numbered p.base number) (slot_at owner name))) [
      | inl fits ↦
          let both = rw (slot_of_other p owner name is_owner is_name other) at fits in
          let parts = and_parts (eqb level (number / p.base)) (eqb digit (number % p.base)) both in
          let same_level = eqb-true level (number / p.base) parts.0 in
          let same_digit = eqb-true digit (number % p.base) parts.1 in
          let at_level : ℕ → ℕ = λ l. l * p.base + number % p.base in
          let at_digit : ℕ → ℕ = λ d. level * p.base + d in
          absurd (ne (sym (div-add-mod' number p.base) ∙ ap at_level (sym same_level) ∙ ap at_digit (sym same_digit)))
      | inr e ↦ e
    ]
