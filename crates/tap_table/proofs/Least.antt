-- of ascending members the first ones that fit a slot are the least ones
-- Cited above: below_later, first_fitting_law_holds, is_slot-from, is_slot-to, ties_law_holds
use Rattle.std.proofs.Common.{◌≡◌, ◌⊎◌, inl, inr, ℕ, ◌<◌, zero, suc, true, Option, None, Some, List, [], ◌∷◌, length, take, All, arith, sym, refl, ap, eqb}
use Rattle.std.proofs.lemmas.Bool.{and_parts, and_from, eqb-true, eq-eqb, true≢false}
use Rattle.std.proofs.lemmas.List.{length-take, get_or-take}
use Rattle.std.proofs.lemmas.List.Elements.{All-nil, All-cons}
use Rattle.std.proofs.lemmas.List.Kept.{AllPairs-filter}
use Rattle.std.specs.List.{AllPairs}
use Rattle.tap_name.specs.declared.slot.Slot.{Slot}
use Rattle.tap_name.specs.Root.{Among}
use Rattle.tap_name.specs.Slot.{slot_at}
use Rattle.tap_name.proofs.Names.{among-All, among-take, among-filter, among-filter_from}
use Rattle.tap_name.proofs.Slots.{same_slot}
use Rattle.tap_table.specs.RestLaws.{FirstFittingLaw, TiesLaw}
use Rattle.tap_table.specs.Members.{IsBelow, is_slot, fitting}

pub is_slot-from : (slot : Slot) (other : Option Slot) → other ≡ Some slot → is_slot slot other ≡ true
is_slot-from slot other is = rw is (and_from _ _ (eq-eqb slot.level slot.level refl) (eq-eqb slot.digit slot.digit refl))

pub is_slot-to : (slot : Slot) (other : Option Slot) → is_slot slot other ≡ true → other ≡ Some slot
is_slot-to slot None is = absurd (true≢false (sym is))
is_slot-to slot (Some other) is =
    let parts = and_parts (eqb other.level slot.level) (eqb other.digit slot.digit) is in
    ap Some (same_slot other slot (eqb-true other.level slot.level parts.0) (eqb-true other.digit slot.digit parts.1))

pub AllPairs-take : (R : List ℕ → List ℕ → Type 0) (n : ℕ) (names : List (List ℕ)) → AllPairs R names
    → AllPairs R (take n names)
AllPairs-take R n names pairs = λ i j d before within.
    let len = length-take n names in
    let in_n : j < n = omega (arith, len, within) in
    let in_names : j < length names = omega (arith, len, within) in
    let at_i = get_or-take n names i d (omega arith) in
    let at_j = get_or-take n names j d in_n in
    rw (at_i, at_j) (pairs i j d before in_names)

pub below_later : (first : List ℕ) (others : List (List ℕ)) → AllPairs IsBelow (first ∷ others) → All (IsBelow first) others
below_later first others pairs = λ k d within. pairs 0 (suc k) d (omega arith) (omega arith)

AllPairs-tail : (R : List ℕ → List ℕ → Type 0) (first : List ℕ) (others : List (List ℕ)) → AllPairs R (first ∷ others)
    → AllPairs R others
AllPairs-tail R first others pairs = λ i j d before within. pairs (suc i) (suc j) d (omega arith) (omega arith)

-- a name of an ascending list is one of the first ones, or above all of them
in_front_or_above : (n : ℕ) (names : List (List ℕ)) → AllPairs IsBelow names → (x : List ℕ) → Among x names
    → Among x (take n names) ⊎ (length (take n names) ≡ n) × All (λ y. IsBelow y x) (take n names)
in_front_or_above zero names pairs x among = inr (refl, All-nil (λ y. IsBelow y x))
in_front_or_above (suc n) [] pairs x among = absurd among
in_front_or_above (suc n) (y ∷ ys) pairs x (inl e) = inl (inl e)
in_front_or_above (suc n) (y ∷ ys) pairs x (inr later) =
    let below = among-All (IsBelow y) ys (below_later y ys pairs) x later in
    elim (in_front_or_above n ys (AllPairs-tail IsBelow y ys pairs) x later) [
      | inl front ↦ inl (inr front)
      | inr above ↦ inr (ap suc above.0, All-cons (λ z. IsBelow z x) y (take n ys) below above.1)
    ]

pub first_fitting_law_holds : FirstFittingLaw
first_fitting_law_holds width owner slot members ascending =
    let test = λ (member : List ℕ). is_slot slot (slot_at owner member) in
    let pairs = AllPairs-filter IsBelow test members ascending in
    record {
      ascending = AllPairs-take IsBelow width (fitting owner slot members) pairs;
      few = let len = length-take width (fitting owner slot members) in omega (arith, len);
      fitting = λ link h.
          let w = among-filter test members link (among-take width (fitting owner slot members) link h) in
          (w.0, is_slot-to slot (slot_at owner link) w.1);
      least = λ member among fits.
          in_front_or_above width (fitting owner slot members) pairs member
          (among-filter_from test members member among (is_slot-from slot (slot_at owner member) fits));
    }

pub ties_law_holds : TiesLaw
ties_law_holds p owner members ties rest = rest.table
