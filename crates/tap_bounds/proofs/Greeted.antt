-- One joiner more is greeted.
use Rattle.std.proofs.Common.{◌≡◌, ℕ, nat_eq, ◌+◌, ◌≤◌, true, false, cond, List, [], ◌∷◌, ◌++◌, arith, ap, refl, sym, subst, ◌∙◌, inl, inr}
use Rattle.std.specs.Cmp.Lexicographic.{pointwise}
use Rattle.std.proofs.lemmas.Bool.{cases_Bool}
use Rattle.std.proofs.lemmas.Slice.Eq.{bytes_eq-Decides}
use Rattle.tap_name.specs.Names.{Among, has_name}
use Rattle.tap_name.proofs.Membership.{has_name-Decides}

among_more : (x : List ℕ) (xs ys : List (List ℕ)) → Among x xs → Among x (xs ++ ys)
among_more x [] ys among = absurd among
among_more x (z ∷ zs) ys (inl is) = inl is
among_more x (z ∷ zs) ys (inr later) = inr (among_more x zs ys later)

among_last : (x : List ℕ) (xs : List (List ℕ)) → Among x (xs ++ x ∷ [])
among_last x [] = inl refl
among_last x (z ∷ zs) = inr (among_last x zs)

-- of those greeted it is the only one more
pub greeted_more : (greeted : List (List ℕ)) (joiner : List ℕ) → has_name greeted joiner ≡ false → (b : List ℕ)
    → cond {A = ℕ} (pointwise nat_eq joiner b) 1 0 + cond {A = ℕ} (has_name greeted b) 1 0
    ≤ cond {A = ℕ} (has_name (greeted ++ joiner ∷ []) b) 1 0
greeted_more greeted joiner new b =
    elim (cases_Bool (pointwise nat_eq joiner b)) [
      | inl same ↦
          let is = (bytes_eq-Decides joiner b).0 same in
          let before : has_name greeted b ≡ false = ap (has_name greeted) (sym is) ∙ new in
          let after : has_name (greeted ++ joiner ∷ []) b ≡ true =
          (has_name-Decides (greeted ++ joiner ∷ []) b).1
          (subst (λ c. Among c (greeted ++ joiner ∷ [])) is (among_last joiner greeted)) in
          rw (same, before, after) (omega arith)
      | inr differs ↦ elim (cases_Bool (has_name greeted b)) [
        | inl has ↦
            let after : has_name (greeted ++ joiner ∷ []) b ≡ true =
            (has_name-Decides (greeted ++ joiner ∷ []) b).1
            (among_more b greeted (joiner ∷ []) ((has_name-Decides greeted b).0 has)) in
            rw (differs, has, after) (omega arith)
        | inr none ↦ rw (differs, none) (omega arith)
      ]
    ]
