-- Objects with one digit at a level go one way from there, if a message turns off at this level.
use Rattle.std.proofs.Common.{◌≡◌, ℕ, ◌+◌, ◌<◌, eqb, List, ◌∷◌, length, drop, get_or, Some, arith, sym, ap, ◌∙◌, inl, inr}
use Rattle.std.specs.List.{slice_index}
use Rattle.std.proofs.lemmas.Bool.{cases_Bool}
use Rattle.std.proofs.lemmas.List.{drop_more}
use Rattle.tap_table.specs.declared.next.Next.TheVariants.{Hop as HopTo}
use Rattle.tap_table.specs.Next.{hop_to, next_from, primary_at, taken_digit}
use Rattle.tap_table.specs.Table.{TableValue}
use Rattle.tap_pointer.specs.declared.hop.Hop.{Hop}
use Rattle.tap_pointer.specs.Reconcile.{hop_from, hop_of}
use Rattle.tap_pointer.proofs.Beside.{hop_above, turned}

module _ (t : TableValue) where
  -- the digits after the one at which a message turns off don't matter
  turns_here : (level digit : ℕ) (more other to : List ℕ) → next_from t level (digit ∷ more) ≡ HopTo to (level + 1)
      → next_from t level (digit ∷ other) ≡ HopTo to (level + 1)
  turns_here level digit more other to is =
      elim (cases_Bool (eqb (get_or t.owner level 0) (taken_digit t level digit))) [
        | inl own ↦
            let rest : next_from t (level + 1) more ≡ HopTo to (level + 1) = rw own at is in
            let later = hop_above t (level + 1) more to (level + 1) rest in
            absurd (omega (arith, later))
        | inr apart ↦
            let here : hop_to (primary_at t level (taken_digit t level digit)) (level + 1) ≡ HopTo to (level + 1) = rw apart at is in
            rw apart here
      ]

  -- so objects with the digit turn off where one of them does
  pub turn_one_way : (level : ℕ) (object : List ℕ) (hop : Hop) → level < length object → hop.level ≡ level + 1
      → hop_from t object (Some level) ≡ Some hop → (other : List ℕ) → level < length other
      → slice_index other level ≡ slice_index object level → Some hop ≡ hop_from t other (Some level)
  turn_one_way level object hop within next is other inside same =
      let to_here : next_from t level (drop level object) ≡ HopTo hop.to hop.level = turned (next_from t level (drop level object)) hop is in
      let first : next_from t level (slice_index object level ∷ drop (level + 1) object) ≡ HopTo hop.to (level + 1) =
      ap (next_from t level) (sym (drop_more object level 0 within)) ∙ to_here ∙ ap (HopTo hop.to) next in
      let second = turns_here level (slice_index object level) (drop (level + 1) object) (drop (level + 1) other) hop.to first in
      let there : next_from t level (drop level other) ≡ HopTo hop.to (level + 1) =
      ap (next_from t level) (drop_more other level 0 inside ∙ ap (λ digit. digit ∷ drop (level + 1) other) same) ∙ second in
      let hop_is : record { to = hop.to; level = level + 1 } ≡ hop = ap (λ n. record { to = hop.to; level = n }) (sym next) in
      sym (ap hop_of there ∙ ap Some hop_is)
