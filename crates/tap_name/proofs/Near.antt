-- Slots by levels alone: two names stand in one slot of a third exactly where they share more with each other than with it.
-- Cited above: ball-both, near_in_slot, near_where_same_slot, same_slot_where_near, slot_at-some
use Rattle.std.proofs.Common.{◌≡◌, ◌⊎◌, inl, inr, ℕ, ◌+◌, ◌<◌, ◌≤◌, List, length, get_or, nat_eq, None, Some, arith, refl, sym, ap, ◌∙◌, eqb, true, false}
use Rattle.std.specs.List.{common_prefix_len}
use Rattle.std.proofs.lemmas.Bool.{cases_Bool, cases_lt, eq-eqb, eqb-false, ne_eqb}
use Rattle.tap_name.specs.declared.slot.Slot.{Slot}
use Rattle.tap_name.specs.Prefix.{lcp}
use Rattle.tap_name.specs.Slot.{slot_at}
use Rattle.tap_name.proofs.Prefixes.{lcp-digits, lcp-itself, lcp-least, lcp-more, lcp-most, lcp-sym, lcp-triangle, lcp-whole}

-- the slot of a name that isn't the owner
pub slot_at-some : (a b : List ℕ) → lcp a b < length a → slot_at a b ≡ Some (record { level = lcp a b; digit = get_or b (lcp a b) 0 })
unfolding lcp
slot_at-some a b apart =
    let test : eqb (common_prefix_len nat_eq a b) (length a) ≡ false = ne_eqb _ _ (λ e. omega arith) in rw test refl

-- names in a slot share as much with the owner, and have the slot's digit there
pub slot_at-parts : (a b : List ℕ) (slot : Slot) → slot_at a b ≡ Some slot
    → (slot.level ≡ lcp a b) × (slot.digit ≡ get_or b (lcp a b) 0) × (lcp a b < length a)
unfolding lcp
slot_at-parts a b slot is =
    let most = lcp-most a b in
    elim (cases_Bool (eqb (common_prefix_len nat_eq a b) (length a))) [
      | inl e ↦ let wrong : None ≡ Some slot = rw e at is in absurd (cc)
      | inr e ↦
          let same : Some (record { level = common_prefix_len nat_eq a b; digit = get_or b (common_prefix_len nat_eq a b) 0 }) ≡ Some slot =
          rw e at is in
          let parts : record { level = common_prefix_len nat_eq a b; digit = get_or b (common_prefix_len nat_eq a b) 0 } ≡ slot = cc in
          let apart = eqb-false _ _ e in
          (sym (ap (λ (s : Slot). s.level) parts), sym (ap (λ (s : Slot). s.digit) parts), omega (arith, apart, most.0))
    ]

-- names that share more with each other than one with the owner share as much with the owner, and stand in one slot of it
pub same_slot_where_near : (b e w : List ℕ) → length b ≡ length e → lcp b e < lcp e w → (lcp b w ≡ lcp b e) × (slot_at b w ≡ slot_at b e)
same_slot_where_near b e w len near =
    let sides = lcp-triangle b e w in
    let level : lcp b w ≡ lcp b e = sides.below near in
    let most = lcp-most e w in
    let digit : get_or e (lcp b e) 0 ≡ get_or w (lcp b e) 0 = lcp-digits e w (lcp b e) near in
    let one = slot_at-some b e (omega arith) in
    let other = slot_at-some b w (omega arith) in
    (level, other ∙ rw (level, ← digit) (sym one))

-- names of one slot of an owner that is none of them share more with each other than with it
pub near_in_slot : (b e w : List ℕ) → length b ≡ length e → length e ≡ length w → (b ≡ e → ⊥) → slot_at b w ≡ slot_at b e
    → lcp b e < lcp e w
near_in_slot b e w be ew apart same =
    let most = lcp-most b e in
    elim (cases_lt (lcp b e) (length b)) [
      | inr all ↦ absurd (apart (lcp-whole b e be (omega arith)))
      | inl inside ↦
          let parts = slot_at-parts b w (record { level = lcp b e; digit = get_or e (lcp b e) 0 }) (same ∙ slot_at-some b e inside) in
          let level : lcp b e ≡ lcp b w = parts.0 in
          let digit : get_or e (lcp b e) 0 ≡ get_or w (lcp b w) 0 = parts.1 in
          lcp-more b e w (omega arith) (omega arith) (sym level) (rw (← level) at digit)
    ]

-- the owner has no slot at itself
pub slot_at-itself : (a : List ℕ) → slot_at a a ≡ None
unfolding lcp
slot_at-itself a =
    let all = lcp-itself a in let test : eqb (common_prefix_len nat_eq a a) (length a) ≡ true = eq-eqb _ _ all in rw test refl

-- a name without a slot is the owner
pub slot_at-none : (a b : List ℕ) → length a ≡ length b → slot_at a b ≡ None → a ≡ b
slot_at-none a b len is =
    let most = lcp-most a b in
    elim (cases_lt (lcp a b) (length a)) [
      | inl inside ↦ let some = slot_at-some a b inside in absurd (cc)
      | inr all ↦ lcp-whole a b len (omega arith)
    ]

-- different names of one slot share more with each other than with the owner
pub near_where_same_slot : (b e w : List ℕ) → length b ≡ length e → length e ≡ length w → (w ≡ e → ⊥) → slot_at b w ≡ slot_at b e
    → lcp b e < lcp w e
near_where_same_slot b e w be ew apart same =
    let away : b ≡ e → ⊥ = λ is. apart (sym (slot_at-none b w (omega arith) (same ∙ ap (slot_at b) (sym is) ∙ slot_at-itself b)) ∙ is) in
    let near = near_in_slot b e w be ew away same in
    let swap = lcp-sym e w in
    omega arith

-- A name in the slot of another at a third shares as much with the third, and is that other one or shares more with it.
pub in_slot_of : (x e y : List ℕ) → length x ≡ length e → length e ≡ length y → (x ≡ e → ⊥) → slot_at x y ≡ slot_at x e
    → (lcp x y ≡ lcp x e) × ((y ≡ e) ⊎ (lcp x e + 1 ≤ lcp y e))
in_slot_of x e y xe ey apart same =
    let near = near_in_slot x e y xe ey apart same in
    let swap = lcp-sym e y in
    ((lcp-triangle x e y).below near, inr (omega arith))

-- names that share so many digits with one are a ball: two of them share as many
pub ball-both : (center x y : List ℕ) (k : ℕ) → k ≤ lcp center x → k ≤ lcp center y → k ≤ lcp x y
ball-both center x y k x_in y_in = let swap = lcp-sym center x in lcp-least x center y k (omega arith) y_in

-- and what shares as many with one of them is one of them
pub ball-more : (center x y : List ℕ) (k : ℕ) → k ≤ lcp center x → k ≤ lcp x y → k ≤ lcp center y
ball-more center x y k x_in near = lcp-least center x y k x_in near
