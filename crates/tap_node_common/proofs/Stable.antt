-- A stable sort gives one list: two lists in order in which elements that tie stand alike are the same.
use Rattle.std.proofs.Common.{◌≡◌, ◌+◌, Bool, true, false, suc, List, [], ◌∷◌, get_or, All, arith, ap, sym, refl, ◌∙◌, inl, inr}
use Rattle.std.specs.Cmp.{IsStrictWeakOrder}
use Rattle.std.specs.List.{filter}
use Rattle.std.specs.List.Sorted.{IsSortedBy, ties}
use Rattle.std.proofs.lemmas.Bool.{cases_Bool, true≢false}
use Rattle.std.proofs.lemmas.List.Elements.{All-cons, All-head, All-tail}
use Rattle.std.proofs.lemmas.List.Sorted.{sorted_far}

module _ {X : Type 0} (lt : X → X → Bool) (order : IsStrictWeakOrder lt) where
  -- no element is less than an earlier one
  abbrev pub Rises : List X → Type 0
  Rises [] = Unit {0}
  Rises (x ∷ xs) = All (λ y. lt y x ≡ false) xs × Rises xs

  pub not_itself : (x : X) → lt x x ≡ false
  not_itself x = elim (cases_Bool (lt x x)) [ inl e ↦ order.one_way x x e | inr e ↦ e ]

  -- what a sort ensures
  pub rises_sorted : (xs : List X) → IsSortedBy lt xs → Rises xs
  rises_sorted [] up = tt
  rises_sorted (x ∷ xs) up =
      let far = sorted_far lt order (x ∷ xs) up in (
        λ k d within. far 0 (suc k) d (omega arith) (omega arith),
        rises_sorted xs (λ k d from within. let next : suc k + 1 ≡ suc (k + 1) = omega arith in
            rw next at (up (suc k) d (omega arith) (omega arith))),
      )

  ties_itself : (x : X) → ties lt x x ≡ true
  ties_itself x = let e = not_itself x in rw e refl

  less_ties_not : (x y : X) → lt x y ≡ true → ties lt x y ≡ false
  less_ties_not x y less = rw less refl

  above_ties_not : (x y : X) → lt y x ≡ true → ties lt x y ≡ false
  above_ties_not x y less = let other = order.one_way y x less in rw (other, less) refl

  none_tie : (x : X) (ys : List X) → All (λ y. ties lt x y ≡ false) ys → filter (ties lt x) ys ≡ []
  none_tie x [] all = refl
  none_tie x (y ∷ ys) all =
      let first : ties lt x y ≡ false = All-head (λ z. ties lt x z ≡ false) y ys all in
      rw first (none_tie x ys (All-tail (λ z. ties lt x z ≡ false) y ys all))

  -- what isn't less than a greater one is greater
  less_of_not : (x y z : X) → lt x y ≡ true → lt z y ≡ false → lt x z ≡ true
  less_of_not x y z less not_below =
      elim (cases_Bool (lt x z)) [
        | inl e ↦ e
        | inr e ↦ absurd (true≢false (sym less ∙ order.chain x z y e not_below))
      ]

  -- an element less than the first of a list in order ties with none of it
  below_all : (x y : X) (ys : List X) → lt x y ≡ true → Rises (y ∷ ys) → filter (ties lt x) (y ∷ ys) ≡ []
  below_all x y ys less rises =
      none_tie x (y ∷ ys) (All-cons (λ z. ties lt x z ≡ false) y ys (less_ties_not x y less) (λ k d within.
      less_ties_not x (get_or ys k d) (less_of_not x y (get_or ys k d) less (rises.0 k d within))))

  first_ties : (x : X) (xs : List X) → filter (ties lt x) (x ∷ xs) ≡ x ∷ filter (ties lt x) xs
  first_ties x xs = let e = ties_itself x in rw e refl

  rest_same : (y z : X) (ys zs : List X) (x : X) → y ≡ z → filter (ties lt x) (y ∷ ys) ≡ filter (ties lt x) (z ∷ zs)
      → filter (ties lt x) ys ≡ filter (ties lt x) zs
  rest_same y z ys zs x is same =
      let moved : filter (ties lt x) (y ∷ ys) ≡ filter (ties lt x) (y ∷ zs) =
      same ∙ ap (λ w. filter (ties lt x) (w ∷ zs)) (sym is) in
      elim (cases_Bool (ties lt x y)) [
        | inl e ↦ let both : y ∷ filter (ties lt x) ys ≡ y ∷ filter (ties lt x) zs = rw e at moved in cc
        | inr e ↦ rw e at moved
      ]

  -- lists in order in which elements that tie stand alike
  pub stable_same : (ys zs : List X) → Rises ys → Rises zs
      → ((x : X) → filter (ties lt x) ys ≡ filter (ties lt x) zs) → ys ≡ zs
  stable_same [] [] one other same = refl
  stable_same [] (z ∷ zs) one other same =
      let none : [] ≡ z ∷ filter (ties lt z) zs = same z ∙ first_ties z zs in absurd (cc)
  stable_same (y ∷ ys) [] one other same =
      let none : [] ≡ y ∷ filter (ties lt y) ys = sym (same y) ∙ first_ties y ys in absurd (cc)
  stable_same (y ∷ ys) (z ∷ zs) one other same =
      elim (cases_Bool (lt y z)) [
        | inl less ↦
            let none : y ∷ filter (ties lt y) ys ≡ [] = sym (first_ties y ys) ∙ same y ∙ below_all y z zs less other in absurd (cc)
        | inr not_less ↦ elim (cases_Bool (lt z y)) [
          | inl above ↦
              let none : z ∷ filter (ties lt z) zs ≡ [] = sym (first_ties z zs) ∙ sym (same z) ∙ below_all z y ys above one in
              absurd (cc)
          | inr not_above ↦
              let tie : ties lt y z ≡ true = rw (not_less, not_above) refl in
              let there : filter (ties lt y) (z ∷ zs) ≡ z ∷ filter (ties lt y) zs = rw tie refl in
              let both : y ∷ filter (ties lt y) ys ≡ z ∷ filter (ties lt y) zs = sym (first_ties y ys) ∙ same y ∙ there in
              let heads : y ≡ z = cc in
              let tails : ys ≡ zs =
              stable_same ys zs one.1 other.1 (λ x. rest_same y z ys zs x heads (same x)) in
              cc
        ]
      ]
