-- Which frame is taken next, by what the last step has chosen.
use Rattle.std.proofs.Common.{◌≡◌, ℕ, zero, suc, ◌+◌, ◌-◌, ◌%◌, ◌<◌, Bool, true, false, None, Some, refl, ap, sym, subst, ◌∙◌, arith}
use Rattle.std.specs.Prelude.{nat_eq, nat_lt, if◌then◌else◌, option_and_then, is_some}
use Rattle.std.proofs.lemmas.Bool.{le-ltb, lt-ltb, ltb-true, ne_eqb}
use Rattle.std.proofs.lemmas.Nat.{mod_below}
use Rattle.tap_scenario.specs.declared.step.Step.{Step}
use Rattle.tap_scenario.specs.declared.step.Step.TheVariants.{Deliver, Settle, SettleNewest, SettleMixed}
use Rattle.tap_make.specs.Mixer.{drawn, high_half, mixed, state_after}
use Rattle.tap_lawful.specs.Due.{Chosen, place_below, place_by, place_chosen}
use Rattle.tap_replay.specs.Choice.{begun_by, one_more_taken}

-- ---- places

-- if there is one, it is this one
there_so : (place : ℕ) (b : Bool) → is_some (if b then Some place else None) ≡ true → (if b then Some place else None) ≡ Some place
there_so place true is = refl
there_so place false is = absurd (cc)

pub place_is : (chosen : Chosen) (count place : ℕ) (due : Bool) → place_by chosen count ≡ place_below count place → due ≡ true
    → due ≡ is_some (place_by chosen count) → Some place ≡ place_by chosen count
place_is chosen count place due at is same =
    sym (at ∙ there_so place (nat_lt place count) (ap is_some (sym at) ∙ sym same ∙ is))

-- whether there is one
pub some_place : (count place : ℕ) → is_some (place_below count place) ≡ nat_lt place count
some_place count place = by_test (nat_lt place count)
  where
    by_test : (b : Bool) → is_some (if b then Some place else None) ≡ b
    by_test true = refl
    by_test false = refl

-- ---- what is chosen by each kind of step

chosen_so : (chosen : Chosen) (step : Step) (count : ℕ) → chosen.step ≡ Some step
    → place_by chosen count ≡ place_chosen step chosen.taken count
chosen_so chosen step count is = ap (option_and_then (λ s. place_chosen s chosen.taken count)) is

pub deliver_place : (chosen : Chosen) (place count : ℕ) → chosen ≡ begun_by (Deliver place) → place_by chosen count ≡ place_below count place
unfolding place_chosen
deliver_place chosen place count is = ap (λ c. place_by c count) is

-- it is taken once
once_more : (chosen : Chosen) (place count taken : ℕ) → chosen.step ≡ Some (Deliver place) → chosen.taken ≡ suc taken
    → place_by chosen count ≡ None
unfolding place_chosen
once_more chosen place count taken is more =
    chosen_so chosen (Deliver place) count is ∙ ap (λ n. if nat_eq n 0 then place_below count place else None) more
    ∙ ap (λ b. if b then place_below count place else None) (ne_eqb (suc taken) 0 (λ same. cc))

pub deliver_once : (chosen : Chosen) (place count : ℕ) → chosen ≡ begun_by (Deliver place) → place_by (one_more_taken chosen) count ≡ None
deliver_once chosen place count is =
    let more : chosen.taken + 1 ≡ suc 0 = ap (λ c. c.taken + 1) is in
    once_more (one_more_taken chosen) place count 0 (ap (λ c. c.step) is) more

pub oldest_place : (chosen : Chosen) (count : ℕ) → chosen.step ≡ Some Settle → place_by chosen count ≡ place_below count 0
unfolding place_chosen
oldest_place chosen count is = chosen_so chosen Settle count is

pub newest_place : (chosen : Chosen) (count : ℕ) → chosen.step ≡ Some SettleNewest → place_by chosen count ≡ place_below count (count - 1)
unfolding place_chosen
newest_place chosen count is = chosen_so chosen SettleNewest count is

pub mixed_place : (chosen : Chosen) (count seed : ℕ) → chosen.step ≡ Some (SettleMixed seed)
    → place_by chosen count ≡ place_below count (drawn seed chosen.taken % count)
unfolding place_chosen
mixed_place chosen count seed is = chosen_so chosen (SettleMixed seed) count is

-- ---- a settle takes a frame if there is one

pub oldest_due : (count : ℕ) → is_some (place_below count 0) ≡ nat_lt 0 count
oldest_due count = some_place count 0

pub newest_due : (count : ℕ) → is_some (place_below count (count - 1)) ≡ nat_lt 0 count
newest_due zero = some_place 0 0
newest_due (suc count) =
    some_place (suc count) (suc count - 1) ∙ lt-ltb (suc count - 1) (suc count) (omega arith) ∙ sym (lt-ltb 0 (suc count) (omega arith))

pub mixed_due : (count number : ℕ) → is_some (place_below count (number % count)) ≡ nat_lt 0 count
mixed_due zero number = some_place 0 (number % 0) ∙ le-ltb (number % 0) 0 (omega arith) ∙ sym (le-ltb 0 0 (omega arith))
mixed_due (suc count) number =
    some_place (suc count) (number % suc count) ∙ lt-ltb (number % suc count) (suc count) (mod_below number (suc count) (omega arith))
    ∙ sym (lt-ltb 0 (suc count) (omega arith))

-- ---- the mixer

-- the number that it gives next
pub drawn_next : (seed taken state : ℕ) → state ≡ state_after seed taken → high_half (mixed state) ≡ drawn seed taken
drawn_next seed taken state is = ap (λ s. high_half (mixed s)) is

-- ---- places that are chosen

place_within : (count place other : ℕ) → place_below count place ≡ Some other → other < count
place_within count place other is = by_test (nat_lt place count) refl is
  where
    by_test : (b : Bool) → nat_lt place count ≡ b → (if b then Some place else None) ≡ Some other → other < count
    by_test true at found =
        let same : place ≡ other = cc in
        subst (λ p. p < count) same (ltb-true place count at)
    by_test false at found = absurd (cc)

-- a place that is chosen is one of so many
pub chosen_within : (step : Step) (taken count place : ℕ) → place_chosen step taken count ≡ Some place → place < count
unfolding place_chosen
chosen_within (Deliver at) taken count place is = by_test (nat_eq taken 0) is
  where
    by_test : (b : Bool) → (if b then place_below count at else None) ≡ Some place → place < count
    by_test true found = place_within count at place found
    by_test false found = absurd (cc)
chosen_within Settle taken count place is = place_within count 0 place is
chosen_within SettleNewest taken count place is = place_within count _ place is
chosen_within (SettleMixed seed) taken count place is = place_within count _ place is
chosen_within other taken count place is = absurd (cc)
