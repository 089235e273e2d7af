-- Whom a joining node has greeted.
use Rattle.std.proofs.Common.{◌≡◌, ◌≢◌, ℕ, true, false, List, [], ◌∷◌, ◌++◌, sym, refl, inl, inr}
use Rattle.std.specs.Prelude.{bytes_eq}
use Rattle.std.proofs.lemmas.Bool.{cases_Bool}
use Rattle.std.proofs.lemmas.Slice.Eq.{bytes_eq-Decides}
use Rattle.tap_name.specs.Names.{has_name}
use Rattle.tap_join.specs.Joining.{JoiningValue, with_greeted}

has_last : (names : List (List ℕ)) (name : List ℕ) → has_name (names ++ name ∷ []) name ≡ true
has_last [] name = rw ((bytes_eq-Decides name name).1 refl) refl
has_last (other ∷ names) name =
    elim (cases_Bool (bytes_eq other name)) [ inl tied ↦ rw tied refl | inr apart ↦ rw apart (has_last names name) ]

has_more : (names others : List (List ℕ)) (name : List ℕ) → has_name names name ≡ true → has_name (names ++ others) name ≡ true
has_more [] others name is = cc
has_more (other ∷ names) others name is =
    elim (cases_Bool (bytes_eq other name)) [
      | inl tied ↦ rw tied refl
      | inr apart ↦ let later : has_name names name ≡ true = rw apart at is in rw apart (has_more names others name later)
    ]

has_others : (names : List (List ℕ)) (name other : List ℕ) → bytes_eq name other ≡ false
    → has_name (names ++ name ∷ []) other ≡ has_name names other
has_others [] name other untied = rw untied refl
has_others (n ∷ names) name other untied =
    elim (cases_Bool (bytes_eq n other)) [ inl tied ↦ rw tied refl | inr apart ↦ rw apart (has_others names name other untied) ]

module _ (joining : JoiningValue) (joiner : List ℕ) where
  -- after a greeting the joiner is among those that were greeted, and all others that were still are
  pub is_greeted : has_name (with_greeted joining joiner).greeted joiner ≡ true
  is_greeted =
      elim (cases_Bool (has_name joining.greeted joiner)) [ inl is ↦ rw is is | inr absent ↦ rw absent (has_last joining.greeted joiner) ]

  pub still_greeted : (other : List ℕ) → has_name joining.greeted other ≡ true
      → has_name (with_greeted joining joiner).greeted other ≡ true
  still_greeted other was =
      elim (cases_Bool (has_name joining.greeted joiner)) [
        | inl is ↦ rw is was
        | inr absent ↦ rw absent (has_more joining.greeted (joiner ∷ []) other was)
      ]

  -- nobody else is
  pub others_greeted : (other : List ℕ) → other ≢ joiner
      → has_name (with_greeted joining joiner).greeted other ≡ has_name joining.greeted other
  others_greeted other differs =
      let untied : bytes_eq joiner other ≡ false = elim (cases_Bool (bytes_eq joiner other)) [
        | inl tied ↦ absurd (differs (sym ((bytes_eq-Decides joiner other).0 tied)))
        | inr is ↦ is
      ] in
      elim (cases_Bool (has_name joining.greeted joiner)) [
        | inl is ↦ rw is refl
        | inr absent ↦ rw absent (has_others joining.greeted joiner other untied)
      ]

  -- a second greeting changes nothing
  pub greeted_twice : has_name joining.greeted joiner ≡ true → with_greeted joining joiner ≡ joining
  greeted_twice is = rw is refl

  -- a greeting leaves the ties, and whether the join was given up
  pub greeting_ties : (with_greeted joining joiner).ties ≡ joining.ties
  greeting_ties = elim (cases_Bool (has_name joining.greeted joiner)) [ inl is ↦ rw is refl | inr absent ↦ rw absent refl ]

  pub greeting_abandoned : (with_greeted joining joiner).abandoned ≡ joining.abandoned
  greeting_abandoned = elim (cases_Bool (has_name joining.greeted joiner)) [ inl is ↦ rw is refl | inr absent ↦ rw absent refl ]
