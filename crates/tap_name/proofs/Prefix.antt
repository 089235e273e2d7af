-- names that share all their digits
-- Cited above: prefix_of_itself, whole_prefix
use Rattle.std.proofs.Common.{◌≡◌, inl, inr, ℕ, ◌+◌, List, [], ◌∷◌, length, nat_eq, arith, refl}
use Rattle.std.proofs.lemmas.Bool.{cases_Bool, eqb-true, eq-eqb}
use Rattle.std.specs.List.{common_prefix_len}

-- a name that is a prefix of another of its length is that one
pub whole_prefix : (a b : List ℕ) → length a ≡ length b → common_prefix_len nat_eq a b ≡ length a → a ≡ b
whole_prefix [] [] len all = refl
whole_prefix [] (y ∷ ys) len all = absurd (omega arith)
whole_prefix (x ∷ xs) [] len all = absurd (omega arith)
whole_prefix (x ∷ xs) (y ∷ ys) len all =
    elim (cases_Bool (nat_eq x y)) [
      | inl e ↦
          let more : 1 + common_prefix_len nat_eq xs ys ≡ length (x ∷ xs) = rw e at all in
          let rest : xs ≡ ys = whole_prefix xs ys (omega arith) (omega arith) in
          let head : x ≡ y = eqb-true x y e in
          cc
      | inr e ↦ let none : 0 ≡ length (x ∷ xs) = rw e at all in absurd (omega arith)
    ]

pub prefix_of_itself : (a : List ℕ) → common_prefix_len nat_eq a a ≡ length a
prefix_of_itself [] = refl
prefix_of_itself (x ∷ xs) =
    let rest = prefix_of_itself xs in rw (eq-eqb x x refl) (omega arith)
