-- the forms in which a name is said to be among some, and names without others
-- Cited above: among-append, among-from_Contains, among-names_without, among_at, are_distinct-Decides, Contains-from_among, few_among,
-- has_name-Decides, has_name-no
use Rattle.std.proofs.Common.{All, ◌≡◌, ◌↔◌, ◌⊎◌, inl, inr, ℕ, ◌<◌, ◌≤◌, true, not, zero, suc, List, [], ◌∷◌, ◌++◌, length, get_or, arith, sym, refl, subst, ◌∙◌}
use Rattle.std.specs.Bool.{Decides}
use Rattle.std.specs.Prelude.{bytes_eq}
use Rattle.std.specs.List.{Contains, IsDistinct}
use Rattle.std.specs.Set.{is_member}
use Rattle.std.specs.List.Sorted.{IsPermutation}
use Rattle.std.proofs.lemmas.Bool.{and_from, and_parts, cases_Bool, true≢false}
use Rattle.std.proofs.lemmas.Slice.Eq.{bytes_eq-Decides}
use Rattle.std.proofs.lemmas.List.Kept.{AllPairs-cons}
use Rattle.std.proofs.lemmas.List.Sorted.{Contains-permutation, IsPermutation-sym}
use Rattle.std.proofs.lemmas.Cmp.{nat_list_eq_equiv}
use Rattle.std.proofs.lemmas.Map.Made.{length-le_from_is_member}
use Rattle.std.proofs.lemmas.Map.Keys.{IsDistinct-IsPermutation, IsDistinct-from_apart, apart_from_distinct}
use Rattle.tap_name.specs.Names.{Among, AreDistinct, are_distinct, has_name, names_without}
use Rattle.tap_name.proofs.Names.{among-filter, among-filter_from}

-- std's word for it, a place where the name stands
pub Contains-from_among : (names : List (List ℕ)) (x : List ℕ) → Among x names → Contains names x
Contains-from_among [] x among = absurd among
Contains-from_among (y ∷ ys) x (inl is) = (0, omega arith, sym is)
Contains-from_among (y ∷ ys) x (inr later) = let place = Contains-from_among ys x later in (suc place.0, omega arith, place.2)

pub among_at : (names : List (List ℕ)) (i : ℕ) (d : List ℕ) → i < length names → Among (get_or names i d) names
among_at [] i d within = absurd (omega arith)
among_at (y ∷ ys) zero d within = inl refl
among_at (y ∷ ys) (suc i) d within = inr (among_at ys i d (omega arith))

pub among-from_Contains : (names : List (List ℕ)) (x : List ℕ) → Contains names x → Among x names
among-from_Contains names x (i, within, is) = subst (λ y. Among y names) is (among_at names i x within)

-- the test of it
pub has_name-Decides : (names : List (List ℕ)) (x : List ℕ) → Decides (has_name names x) (Among x names)
has_name-Decides [] x = (λ h. absurd (true≢false (sym h)), λ among. absurd among)
has_name-Decides (y ∷ ys) x =
    let rest = has_name-Decides ys x in
    elim (cases_Bool (bytes_eq y x)) [
      | inl e ↦ rw e (λ _. inl (sym ((bytes_eq-Decides y x).0 e)), λ _. refl)
      | inr e ↦ rw e (
        λ h. inr (rest.0 h),
        λ among. elim among [
          | inl is ↦ absurd (true≢false (sym ((bytes_eq-Decides y x).1 (sym is)) ∙ e))
          | inr later ↦ rest.1 later
        ],
      )
    ]

-- a name that isn't among them fails the test, and back
pub has_name-no : (names : List (List ℕ)) (x : List ℕ) → Decides (not (has_name names x)) (Among x names → ⊥)
has_name-no names x =
    let both = has_name-Decides names x in
    elim (cases_Bool (has_name names x)) [
      | inl e ↦ rw e (λ h. absurd (true≢false (sym h)), λ no. absurd (no (both.0 e)))
      | inr e ↦ rw e (λ _ among. true≢false (sym (both.1 among) ∙ e), λ _. refl)
    ]

-- names in another order are the same names
pub among-permutation : (names others : List (List ℕ)) (x : List ℕ) → IsPermutation names others → Among x names ↔ Among x others
among-permutation names others x moved = (
  λ among. among-from_Contains others x (Contains-permutation names others x moved (Contains-from_among names x among)),
  λ among. among-from_Contains names x
      (Contains-permutation others names x (IsPermutation-sym names others moved) (Contains-from_among others x among)),
)

pub among-append : (names others : List (List ℕ)) (x : List ℕ) → Among x (names ++ others) ↔ (Among x names ⊎ Among x others)
among-append [] others x = (λ among. inr among, λ either. elim either [ inl none ↦ absurd none | inr among ↦ among ])
among-append (y ∷ ys) others x =
    let rest = among-append ys others x in (
      λ among. elim among [ inl is ↦ inl (inl is) | inr later ↦ elim (rest.0 later) [ inl one ↦ inl (inr one) | inr other ↦ inr other ] ],
      λ either. elim either [
        | inl one ↦ elim one [ inl is ↦ inl is | inr later ↦ inr (rest.1 (inl later)) ]
        | inr other ↦ inr (rest.1 (inr other))
      ],
    )

-- names without others are the first ones that aren't among the second
pub among-names_without : (names others : List (List ℕ)) (x : List ℕ)
    → Among x (names_without names others) ↔ (Among x names × (Among x others → ⊥))
among-names_without names others x =
    let test = λ (name : List ℕ). not (has_name others name) in (
      λ among. let parts = among-filter test names x among in (parts.0, (has_name-no others x).0 parts.1),
      λ both. among-filter_from test names x both.0 ((has_name-no others x).1 both.1),
    )

flipped : (a b : List ℕ) → bytes_eq a b ≡ bytes_eq b a
flipped a b =
    elim (cases_Bool (bytes_eq a b)) [
      | inl e ↦ e ∙ sym ((bytes_eq-Decides b a).1 (sym ((bytes_eq-Decides a b).0 e)))
      | inr e ↦ elim (cases_Bool (bytes_eq b a)) [
        | inl f ↦ absurd (true≢false (sym ((bytes_eq-Decides a b).1 (sym ((bytes_eq-Decides b a).0 f))) ∙ e))
        | inr f ↦ e ∙ sym f
      ]
    ]

-- std's word for distinct names
pub IsDistinct-from_distinct : (names : List (List ℕ)) → AreDistinct names → IsDistinct bytes_eq names
IsDistinct-from_distinct names distinct =
    IsDistinct-from_apart bytes_eq names (λ i j d before within. elim (cases_Bool (bytes_eq (get_or names i d) (get_or names j d))) [
      | inl e ↦ absurd (distinct i j d before within ((bytes_eq-Decides (get_or names i d) (get_or names j d)).0 e))
      | inr e ↦ e
    ])

pub distinct-from_IsDistinct : (names : List (List ℕ)) → IsDistinct bytes_eq names → AreDistinct names
distinct-from_IsDistinct names distinct i j d before within same =
    true≢false (sym ((bytes_eq-Decides (get_or names i d) (get_or names j d)).1 same)
    ∙ apart_from_distinct bytes_eq names i j d distinct before within)

-- distinct names in another order are distinct
pub distinct-permutation : (names others : List (List ℕ)) → IsPermutation names others → AreDistinct names → AreDistinct others
distinct-permutation names others moved distinct =
    distinct-from_IsDistinct others (IsDistinct-IsPermutation bytes_eq flipped names others moved (IsDistinct-from_distinct names distinct))

apart_from_later : (name : List ℕ) (others : List (List ℕ)) → (Among name others → ⊥) → All (λ other. name ≡ other → ⊥) others
apart_from_later name others absent k d within same = absent (subst (λ x. Among x others) (sym same) (among_at others k d within))

-- the test of distinctness
pub are_distinct-Decides : (names : List (List ℕ)) → Decides (are_distinct names) (AreDistinct names)
are_distinct-Decides [] = (λ _ i j d before within. absurd (omega arith), λ _. refl)
are_distinct-Decides (name ∷ others) =
    let rest = are_distinct-Decides others in
    let first = has_name-no others name in (
      λ passes.
          let parts = and_parts (not (has_name others name)) (are_distinct others) passes in
          AllPairs-cons (λ x y. x ≡ y → ⊥) name others (apart_from_later name others (first.0 parts.0)) (rest.0 parts.1),
      λ distinct. and_from (not (has_name others name)) (are_distinct others)
          (first.1 (λ among.
          let place = Contains-from_among others name among in
          distinct 0 (suc place.0) name (omega arith) (let inside = place.1 in omega arith) (sym place.2)))
          (rest.1 (λ i j d before within. distinct (suc i) (suc j) d (omega arith) (omega arith))),
    )

-- std's test of membership
pub among-from_is_member : (names : List (List ℕ)) (x : List ℕ) → is_member bytes_eq names x ≡ true → Among x names
among-from_is_member [] x is = cc
among-from_is_member (y ∷ names) x is =
    elim (cases_Bool (bytes_eq x y)) [
      | inl same ↦ inl ((bytes_eq-Decides x y).0 same)
      | inr other ↦ inr (among-from_is_member names x (rw other at is))
    ]

pub is_member-from_among : (names : List (List ℕ)) (x : List ℕ) → Among x names → is_member bytes_eq names x ≡ true
is_member-from_among [] x among = absurd among
is_member-from_among (y ∷ names) x (inl same) = rw ((bytes_eq-Decides x y).1 same) refl
is_member-from_among (y ∷ names) x (inr later) =
    elim (cases_Bool (bytes_eq x y)) [
      | inl same ↦ rw same refl
      | inr other ↦ rw other (is_member-from_among names x later)
    ]

-- distinct names that are all among others are no more than these
pub few_among : (names others : List (List ℕ)) → AreDistinct names → ((x : List ℕ) → Among x names → Among x others)
    → length names ≤ length others
few_among names others distinct all =
    length-le_from_is_member nat_list_eq_equiv names others (IsDistinct-from_distinct names distinct)
    (λ x is. is_member-from_among others x (all x (among-from_is_member names x is)))
