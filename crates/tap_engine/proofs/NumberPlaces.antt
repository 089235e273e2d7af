-- The place of a number in a list that has it.
-- Cited above: place_at, place_found
use Rattle.std.proofs.Common.{◌≡◌, inl, inr, ℕ, ◌+◌, ◌<◌, true, not, List, [], ◌∷◌, length, get_or, cond, None, Some, ap, sym, ◌∙◌, arith}
use Rattle.std.specs.Prelude.{◌||◌, nat_eq, position, slice_get}
use Rattle.std.specs.List.{position_or_len}
use Rattle.std.proofs.lemmas.Bool.{cases_eq, eq-eqb, eqb-true, false≢true, lt-ltb, ne_eqb}
use Rattle.std.proofs.lemmas.List.Quantifiers.{position-Some}
use Rattle.std.proofs.lemmas.Option.{slice_get-get_or}
use Rattle.tap_history.specs.Moments.{has_number}

place_within : (numbers : List ℕ) (number : ℕ) → has_number numbers number ≡ true → position_or_len (nat_eq number) numbers < length numbers
place_within [] number is = absurd (false≢true is)
place_within (first ∷ numbers) number is =
    elim (cases_eq first number) [
      | inl same ↦
          let here : position_or_len (nat_eq number) (first ∷ numbers) ≡ 0 =
          ap (λ b. cond {A = ℕ} (not b) (1 + position_or_len (nat_eq number) numbers) 0) (eq-eqb number first (sym same)) in
          omega (arith, here)
      | inr apart ↦
          let rest = place_within numbers number (sym (ap (λ b. b || has_number numbers number) (ne_eqb first number apart)) ∙ is) in
          let later : position_or_len (nat_eq number) (first ∷ numbers) ≡ 1 + position_or_len (nat_eq number) numbers =
          ap (λ b. cond {A = ℕ} (not b) (1 + position_or_len (nat_eq number) numbers) 0) (ne_eqb number first (λ e. apart (sym e))) in
          omega (arith, rest, later)
    ]

-- a number that is there has a place
pub place_at : (numbers : List ℕ) (number : ℕ) → has_number numbers number ≡ true
    → position (nat_eq number) numbers ≡ Some (position_or_len (nat_eq number) numbers)
place_at numbers number is =
    let place = position_or_len (nat_eq number) numbers in
    ap (λ b. cond b (Some place) None) (lt-ltb place (length numbers) (place_within numbers number is))

-- and it stands there
pub place_found : (numbers : List ℕ) (number place : ℕ) → position (nat_eq number) numbers ≡ Some place → slice_get numbers place ≡ Some number
place_found numbers number place is =
    let at = position-Some (nat_eq number) numbers place 0 is in
    slice_get-get_or numbers place 0 at.0 ∙ ap Some (sym (eqb-true number (get_or numbers place 0) at.1))
