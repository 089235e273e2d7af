-- the first digit, cyclically, that passes a test
use Rattle.std.proofs.Common.{◌≡◌, ◌⊎◌, inl, inr, ℕ, ◌+◌, ◌<◌, ◌≤◌, zero, suc, cond, Bool, true, false, nat_le, arith, ap, sym, refl, ◌∙◌}
use Rattle.std.proofs.lemmas.Bool.{cases_Bool, cases_lt, true≢false}
use Rattle.std.proofs.lemmas.Bool.Decides.{nat_tests}
use Rattle.tap_name.specs.Cyclic.{next_digit, first_from, first_cyclic}
use Rattle.tap_name.proofs.Digits.{next_below, next_is}
use Rattle.tap_surrogate.specs.Distance.{cyclic_distance}

-- the distance leads up to the digit, or up to it past the base
pub distance_is : (base from to : ℕ) → from < base → to < base
    → (cyclic_distance base from to + from ≡ to) ⊎ (cyclic_distance base from to + from ≡ to + base) × (to < from)
distance_is base from to from_below to_below =
    elim (cases_lt to from) [
      | inl past ↦ let test : nat_le from to ≡ false = grind (arith, nat_tests) in rw test (inr (omega arith, past))
      | inr up ↦ let test : nat_le from to ≡ true = grind (arith, nat_tests) in rw test (inl (omega arith))
    ]

pub distance_below : (base from to : ℕ) → from < base → to < base → cyclic_distance base from to < base
distance_below base from to from_below to_below =
    elim (distance_is base from to from_below to_below) [ inl up ↦ omega arith | inr past ↦ omega arith ]

-- a digit is reached after its own number of steps alone
pub same_distance : (base from a b : ℕ) → from < base → a < base → b < base
    → cyclic_distance base from a ≡ cyclic_distance base from b → a ≡ b
same_distance base from a b from_below a_below b_below same =
    elim (distance_is base from a from_below a_below) [
      | inl up ↦ elim (distance_is base from b from_below b_below) [ inl up' ↦ omega arith | inr past' ↦ omega arith ]
      | inr past ↦ elim (distance_is base from b from_below b_below) [ inl up' ↦ omega arith | inr past' ↦ omega arith ]
    ]

pub distance_to_itself : (base digit : ℕ) → digit < base → cyclic_distance base digit digit ≡ 0
distance_to_itself base digit below =
    elim (distance_is base digit digit below below) [ inl up ↦ omega arith | inr past ↦ omega arith ]

-- a step takes the way to another digit down by one
pub distance-next : (base digit to : ℕ) → digit < base → to < base → (digit ≡ to → ⊥)
    → cyclic_distance base (next_digit base digit) to + 1 ≡ cyclic_distance base digit to
distance-next base digit to below to_below apart =
    let next = next_below base digit below in
    elim (next_is base digit below) [
      | inl w ↦
          elim (distance_is base digit to below to_below) [
            | inl up ↦ elim (distance_is base (next_digit base digit) to next to_below)
                [ inl up' ↦ omega (arith, apart) | inr past' ↦ omega (arith, apart) ]
            | inr past ↦ elim (distance_is base (next_digit base digit) to next to_below)
                [ inl up' ↦ omega (arith, apart) | inr past' ↦ omega (arith, apart) ]
          ]
      | inr w ↦
          elim (distance_is base digit to below to_below) [
            | inl up ↦ elim (distance_is base (next_digit base digit) to next to_below)
                [ inl up' ↦ omega (arith, apart) | inr past' ↦ omega (arith, apart) ]
            | inr past ↦ elim (distance_is base (next_digit base digit) to next to_below)
                [ inl up' ↦ omega (arith, apart) | inr past' ↦ omega (arith, apart) ]
          ]
    ]

-- a step leads one further from the digit where the steps began
pub distance_to_next : (base from digit : ℕ) → from < base → digit < base → cyclic_distance base from digit + 1 < base
    → cyclic_distance base from (next_digit base digit) ≡ cyclic_distance base from digit + 1
distance_to_next base from digit from_below below room =
    let next = next_below base digit below in
    elim (next_is base digit below) [
      | inl w ↦
          elim (distance_is base from digit from_below below) [
            | inl up ↦ elim (distance_is base from (next_digit base digit) from_below next)
                [ inl up' ↦ omega arith | inr past' ↦ omega arith ]
            | inr past ↦ elim (distance_is base from (next_digit base digit) from_below next)
                [ inl up' ↦ omega arith | inr past' ↦ omega arith ]
          ]
      | inr w ↦
          elim (distance_is base from digit from_below below) [
            | inl up ↦ elim (distance_is base from (next_digit base digit) from_below next)
                [ inl up' ↦ omega arith | inr past' ↦ omega arith ]
            | inr past ↦ elim (distance_is base from (next_digit base digit) from_below next)
                [ inl up' ↦ omega arith | inr past' ↦ omega arith ]
          ]
    ]

-- no digit that passes is reached before this one
abbrev pub NonePassesBefore : ℕ → (ℕ → Bool) → ℕ → ℕ → Type 0
NonePassesBefore base passes from digit =
    (other : ℕ) → other < base → passes other ≡ true → cyclic_distance base from digit ≤ cyclic_distance base from other

first_from_is : (base : ℕ) (passes : ℕ → Bool) (found : ℕ) → found < base → passes found ≡ true → (left digit : ℕ)
    → digit < base
    → cyclic_distance base digit found < left → NonePassesBefore base passes digit found
    → first_from base passes left digit ≡ found
first_from_is base passes found found_below found_passes zero digit below near first = absurd (omega arith)
first_from_is base passes found found_below found_passes (suc left) digit below near first =
    elim (cases_Bool (passes digit)) [
      | inl e ↦
          let least = first digit below e in
          let itself = distance_to_itself base digit below in
          rw e (same_distance base digit digit found below below found_below (omega (arith, least, itself)))
      | inr e ↦
          let apart : digit ≡ found → ⊥ = λ same. true≢false (sym found_passes ∙ ap passes (sym same) ∙ e) in
          let next = distance-next base digit found below found_below apart in
          rw e (first_from_is base passes found found_below found_passes left (next_digit base digit) (next_below base digit below)
          (omega (arith, next))
          (λ other other_below other_passes.
          let other_apart : digit ≡ other → ⊥ = λ same. true≢false (sym other_passes ∙ ap passes (sym same) ∙ e) in
          let other_next = distance-next base digit other below other_below other_apart in
          let least = first other other_below other_passes in
          omega (arith, next, other_next, least)))
    ]

-- the digit that passes and is reached before all others that pass is the first one
pub first_cyclic_is : (base : ℕ) (passes : ℕ → Bool) (from found : ℕ) → from < base → found < base → passes found ≡ true
    → NonePassesBefore base passes from found → first_cyclic base passes from ≡ found
first_cyclic_is base passes from found from_below found_below found_passes first =
    first_from_is base passes found found_below found_passes base from from_below
    (distance_below base from found from_below found_below) first

-- a digit that does not pass is left behind
pub none_before_next : (base : ℕ) (passes : ℕ → Bool) (from digit : ℕ) → from < base → digit < base
    → passes digit ≡ false
    → NonePassesBefore base passes from digit → NonePassesBefore base passes from (next_digit base digit)
none_before_next base passes from digit from_below below fails first =
    λ other other_below other_passes.
    let least = first other other_below other_passes in
    let apart : cyclic_distance base from digit ≡ cyclic_distance base from other → ⊥ =
    λ same. true≢false (sym other_passes ∙ ap passes (sym (same_distance base from digit other from_below below other_below same)) ∙ fails)
    in
    let other_near = distance_below base from other from_below other_below in
    let next = distance_to_next base from digit from_below below (omega (arith, least, apart, other_near)) in
    omega (arith, next, least, apart)

-- two tests that agree on the digits of the base find one digit
pub first_from_agree : (base : ℕ) (p q : ℕ → Bool) → ((digit : ℕ) → digit < base → p digit ≡ q digit) → (left digit : ℕ)
    → digit < base → first_from base p left digit ≡ first_from base q left digit
first_from_agree base p q same zero digit below = refl
first_from_agree base p q same (suc left) digit below =
    let later = first_from_agree base p q same left (next_digit base digit) (next_below base digit below) in
    rw (same digit below) (ap (λ n. cond (q digit) digit n) later)
