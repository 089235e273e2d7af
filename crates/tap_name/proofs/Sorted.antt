-- names in their order
-- Cited above: among-sorted, ascending-first, ascending-others, distinct-from_ascending, sorted-ascending, sorted-is, sorted-names,
-- sorted-of_ascending, sorted-permutation, sorted-same
use Rattle.std.proofs.Common.{◌≡◌, ◌↔◌, ◌⊎◌, inl, inr, ℕ, ◌+◌, ◌<◌, true, false, zero, suc, List, [], ◌∷◌, length, get_or, All, arith, ap, sym, refl, subst, ◌∙◌, cond}
use Rattle.std.specs.Prelude.{bytes_eq}
use Rattle.std.specs.List.Sorted.{IsPermutation, IsSorted}
use Rattle.std.specs.Ordering.{is_gt, is_lt, ordering_reverse}
use Rattle.std.specs.declared.cmp.Ordering.TheVariants.{Greater}
use Rattle.std.proofs.lemmas.Bool.{cases_Bool, true≢false}
use Rattle.std.proofs.lemmas.Cmp.{nat_list_cmp_total, upto}
use Rattle.std.proofs.lemmas.List.Elements.{All-nil, All-cons, All-weaker}
use Rattle.std.proofs.lemmas.List.Sorted.{All-permutation, IsPermutation-cons, IsPermutation-middle, IsPermutation-refl, IsPermutation-trans, ranks_by, sorted_far, sum_by-IsPermutation}
use Rattle.std.proofs.lemmas.List.Recursion.{is_sum_by}
use Rattle.std.proofs.lemmas.Slice.Eq.{bytes_eq-Decides}
use Rattle.tap_name.specs.Names.{Among, AreDistinct, AreNames}
use Rattle.tap_name.specs.Settings.{SettingsValue}
use Rattle.tap_name.specs.Order.{AreAscending, IsBelow, inserted, name_cmp, sorted}
use Rattle.tap_name.proofs.Membership.{among-permutation, distinct-permutation}
use Rattle.tap_name.proofs.Names.{among-All}
use Rattle.tap_name.proofs.Orders.{below-cases, below-itself, below-one_way, name_cmp-itself}

inserted-permutation : (name : List ℕ) (names : List (List ℕ)) → IsPermutation (name ∷ names) (inserted name names)
unfolding inserted
inserted-permutation name [] = IsPermutation-refl (name ∷ [])
inserted-permutation name (first ∷ others) =
    elim (cases_Bool (is_gt (name_cmp name first))) [
      | inl e ↦
          rw e (IsPermutation-trans (name ∷ first ∷ others) (first ∷ name ∷ others) (first ∷ inserted name others)
          (IsPermutation-middle (name ∷ []) first others)
          (IsPermutation-cons first (name ∷ others) (inserted name others) (inserted-permutation name others)))
      | inr e ↦ rw e (IsPermutation-refl (name ∷ first ∷ others))
    ]

-- sorted names are the same names
pub sorted-permutation : (names : List (List ℕ)) → IsPermutation names (sorted names)
unfolding sorted
sorted-permutation [] = IsPermutation-refl []
sorted-permutation (name ∷ names) =
    IsPermutation-trans (name ∷ names) (name ∷ sorted names) (inserted name (sorted names))
    (IsPermutation-cons name names (sorted names) (sorted-permutation names)) (inserted-permutation name (sorted names))

pub among-sorted : (names : List (List ℕ)) (x : List ℕ) → Among x names ↔ Among x (sorted names)
among-sorted names x = among-permutation names (sorted names) x (sorted-permutation names)

-- one name isn't above another
abbrev IsUpTo : List ℕ → List ℕ → Type 0
IsUpTo a b = is_gt (name_cmp a b) ≡ false

-- each name isn't above the later ones
abbrev AreRising : List (List ℕ) → Type 0
AreRising [] = Unit {0}
AreRising (first ∷ others) = All (IsUpTo first) others × AreRising others

up_to-trans : (a b c : List ℕ) → IsUpTo a b → IsUpTo b c → IsUpTo a c
up_to-trans a b c ab bc = upto nat_list_cmp_total a b c ab bc

up_to-itself : (a : List ℕ) → IsUpTo a a
up_to-itself a = ap is_gt (name_cmp-itself a)

up_to-cases : (a b : List ℕ) → IsUpTo a b → (a ≡ b) ⊎ IsBelow a b
up_to-cases a b up =
    elim (below-cases a b) [
      | inl same ↦ inl same
      | inr one ↦ elim one [
        | inl below ↦ inr below
        | inr above ↦
            let is : name_cmp a b ≡ Greater = nat_list_cmp_total.antisymm a b ∙ ap ordering_reverse above in
            absurd (true≢false (sym (ap is_gt is) ∙ up))
      ]
    ]

up_to-from_below : (a b : List ℕ) → IsBelow a b → IsUpTo a b
up_to-from_below a b below = ap is_gt below

above_is : (a b : List ℕ) → is_gt (name_cmp a b) ≡ true → IsUpTo b a
above_is a b above =
    elim (below-cases a b) [
      | inl same ↦ subst (λ x. IsUpTo x a) same (up_to-itself a)
      | inr one ↦ elim one [
        | inl below ↦ absurd (true≢false (sym above ∙ ap is_gt below))
        | inr over ↦ up_to-from_below b a over
      ]
    ]

-- two names of which neither is above the other are one
up_to-both : (a b : List ℕ) → IsUpTo a b → IsUpTo b a → a ≡ b
up_to-both a b ab ba =
    elim (up_to-cases a b ab) [
      | inl same ↦ same
      | inr below ↦ elim (up_to-cases b a ba) [ inl same ↦ sym same | inr above ↦ absurd (below-one_way a b below above) ]
    ]

inserted-rising : (name : List ℕ) (names : List (List ℕ)) → AreRising names → AreRising (inserted name names)
unfolding inserted
inserted-rising name [] rising = (All-nil (IsUpTo name), tt)
inserted-rising name (first ∷ others) rising =
    elim (cases_Bool (is_gt (name_cmp name first))) [
      | inl e ↦
          rw e (
            All-permutation (IsUpTo first) (name ∷ others) (inserted name others) (inserted-permutation name others)
                (All-cons (IsUpTo first) name others (above_is name first e) rising.0),
            inserted-rising name others rising.1,
          )
      | inr e ↦
          rw e (
            All-cons (IsUpTo name) first others e
                (All-weaker (IsUpTo first) (IsUpTo name) (λ x up. up_to-trans name first x e up) others rising.0),
            rising,
          )
    ]

sorted-rising : (names : List (List ℕ)) → AreRising (sorted names)
unfolding sorted
sorted-rising [] = tt
sorted-rising (name ∷ names) = inserted-rising name (sorted names) (sorted-rising names)

-- what a sort by `Ord` ensures
rising-from_sorted : (names : List (List ℕ)) → IsSorted name_cmp names → AreRising names
rising-from_sorted [] up = tt
rising-from_sorted (first ∷ others) up =
    let far = sorted_far (λ x y. is_lt (name_cmp x y)) (ranks_by nat_list_cmp_total (λ x. x)) (first ∷ others) up in
    let not_below : (x : List ℕ) → is_lt (name_cmp x first) ≡ false → IsUpTo first x = λ x no.
    elim (below-cases first x) [
      | inl same ↦ subst (IsUpTo first) same (up_to-itself first)
      | inr one ↦ elim one [
        | inl below ↦ up_to-from_below first x below
        | inr above ↦ absurd (true≢false (sym (ap is_lt above) ∙ no))
      ]
    ] in (
      λ k d within. not_below (get_or others k d) (far 0 (suc k) d (omega arith) (omega arith)),
      rising-from_sorted others (λ k d from within.
          let next : suc k + 1 ≡ suc (k + 1) = omega arith in rw next at (up (suc k) d (omega arith) (omega arith))),
    )

-- how often a name stands among some
abbrev count : List ℕ → List (List ℕ) → ℕ
count name [] = 0
count name (first ∷ others) = cond (bytes_eq name first) 1 0 + count name others

count-permutation : (name : List ℕ) (names others : List (List ℕ)) → IsPermutation names others → count name others ≡ count name names
count-permutation name names others moved =
    let test : List ℕ → ℕ = λ other. cond (bytes_eq name other) 1 0 in
    is_sum_by (count name) test refl (λ _ _. refl) others ∙ sum_by-IsPermutation test names others moved
    ∙ sym (is_sum_by (count name) test refl (λ _ _. refl) names)

counted_first : (name : List ℕ) (names : List (List ℕ)) → 0 < count name (name ∷ names)
counted_first name names = let test : bytes_eq name name ≡ true = (bytes_eq-Decides name name).1 refl in rw test (omega arith)

among-from_count : (name : List ℕ) (names : List (List ℕ)) → 0 < count name names → Among name names
among-from_count name [] some = absurd (omega arith)
among-from_count name (first ∷ others) some =
    elim (cases_Bool (bytes_eq name first)) [
      | inl e ↦ inl ((bytes_eq-Decides name first).0 e)
      | inr e ↦ let rest : 0 < 0 + count name others = rw e at some in inr (among-from_count name others (omega arith))
    ]

-- the first of rising names isn't above any of them
first_up_to : (first : List ℕ) (others : List (List ℕ)) (x : List ℕ) → AreRising (first ∷ others) → Among x (first ∷ others)
    → IsUpTo first x
first_up_to first others x rising (inl is) = subst (IsUpTo first) (sym is) (up_to-itself first)
first_up_to first others x rising (inr later) = among-All (IsUpTo first) others rising.0 x later

rising_same : (xs ys : List (List ℕ)) → AreRising xs → AreRising ys → ((name : List ℕ) → count name xs ≡ count name ys) → xs ≡ ys
rising_same [] [] one other same = refl
rising_same [] (y ∷ ys) one other same = let some = counted_first y ys in let none = same y in absurd (omega arith)
rising_same (x ∷ xs) [] one other same = let some = counted_first x xs in let none = same x in absurd (omega arith)
rising_same (x ∷ xs) (y ∷ ys) one other same =
    let x_in : Among x (y ∷ ys) = among-from_count x (y ∷ ys) (let some = counted_first x xs in let is = same x in omega arith) in
    let y_in : Among y (x ∷ xs) = among-from_count y (x ∷ xs) (let some = counted_first y ys in let is = same y in omega arith) in
    let heads : x ≡ y = up_to-both x y (first_up_to x xs y one y_in) (first_up_to y ys x other x_in) in
    let tails : xs ≡ ys = rising_same xs ys one.1 other.1 (λ name.
    let all : cond (bytes_eq name x) 1 0 + count name xs ≡ cond (bytes_eq name y) 1 0 + count name ys = same name in
    let first : cond {A = ℕ} (bytes_eq name x) 1 0 ≡ cond {A = ℕ} (bytes_eq name y) 1 0 =
    ap (λ n. cond {A = ℕ} (bytes_eq name n) 1 0) heads in
    omega arith) in
    cc

-- what a sort of names gives is these names sorted, whatever the sort
pub sorted-is : (names after : List (List ℕ)) → IsPermutation names after → IsSorted name_cmp after → after ≡ sorted names
sorted-is names after moved up =
    rising_same after (sorted names) (rising-from_sorted after up) (sorted-rising names)
    (λ name. count-permutation name names after moved ∙ sym (count-permutation name names (sorted names) (sorted-permutation names)))

-- names in another order are sorted alike
pub sorted-same : (names others : List (List ℕ)) → IsPermutation names others → sorted names ≡ sorted others
sorted-same names others moved =
    rising_same (sorted names) (sorted others) (sorted-rising names) (sorted-rising others) (λ name.
    count-permutation name names (sorted names) (sorted-permutation names) ∙ sym (count-permutation name names others moved)
    ∙ sym (count-permutation name others (sorted others) (sorted-permutation others)))

rising_at : (names : List (List ℕ)) → AreRising names → (i j : ℕ) (d : List ℕ) → i < j → j < length names
    → IsUpTo (get_or names i d) (get_or names j d)
rising_at [] rising i j d before within = absurd (omega arith)
rising_at (first ∷ others) rising i zero d before within = absurd (omega arith)
rising_at (first ∷ others) rising zero (suc j) d before within = rising.0 j d (omega arith)
rising_at (first ∷ others) rising (suc i) (suc j) d before within = rising_at others rising.1 i j d (omega arith) (omega arith)

-- distinct names, sorted, ascend
pub sorted-ascending : (names : List (List ℕ)) → AreDistinct names → AreAscending (sorted names)
sorted-ascending names distinct =
    let apart = distinct-permutation names (sorted names) (sorted-permutation names) distinct in
    λ i j d before within.
    elim (up_to-cases (get_or (sorted names) i d) (get_or (sorted names) j d)
    (rising_at (sorted names) (sorted-rising names) i j d before within)) [
      | inl same ↦ absurd (apart i j d before within same)
      | inr below ↦ below
    ]

-- ascending names are distinct
pub distinct-from_ascending : (names : List (List ℕ)) → AreAscending names → AreDistinct names
distinct-from_ascending names ascending i j d before within same =
    below-itself (get_or names j d) (subst (λ x. IsBelow x (get_or names j d)) same (ascending i j d before within))

-- the first of ascending names is below the others, which ascend
pub ascending-first : (first : List ℕ) (others : List (List ℕ)) → AreAscending (first ∷ others) → All (IsBelow first) others
ascending-first first others ascending = λ k d within. ascending 0 (suc k) d (omega arith) (omega arith)

pub ascending-others : (first : List ℕ) (others : List (List ℕ)) → AreAscending (first ∷ others) → AreAscending others
ascending-others first others ascending = λ i j d before within. ascending (suc i) (suc j) d (omega arith) (omega arith)

least : (first : List ℕ) (others : List (List ℕ)) (x : List ℕ) → AreAscending (first ∷ others) → Among x (first ∷ others)
    → (x ≡ first) ⊎ IsBelow first x
least first others x ascending (inl is) = inl is
least first others x ascending (inr later) = inr (among-All (IsBelow first) others (ascending-first first others ascending) x later)

-- two ascending lists of the same names are one list
pub ascending-same : (xs ys : List (List ℕ)) → AreAscending xs → AreAscending ys → ((x : List ℕ) → Among x xs → Among x ys)
    → ((x : List ℕ) → Among x ys → Among x xs) → xs ≡ ys
ascending-same [] [] one other to from = refl
ascending-same [] (y ∷ ys) one other to from = absurd (from y (inl refl))
ascending-same (x ∷ xs) [] one other to from = absurd (to x (inl refl))
ascending-same (x ∷ xs) (y ∷ ys) one other to from =
    let heads : x ≡ y = elim (least y ys x other (to x (inl refl))) [
      | inl same ↦ same
      | inr above ↦ elim (least x xs y one (from y (inl refl))) [ inl same ↦ sym same | inr below ↦ absurd (below-one_way x y below above) ]
    ] in
    let tails : xs ≡ ys = ascending-same xs ys (ascending-others x xs one) (ascending-others y ys other)
    (λ n among. elim (to n (inr among)) [
      | inl is ↦ absurd (below-itself n (subst (λ z. IsBelow z n) (heads ∙ sym is)
          (among-All (IsBelow x) xs (ascending-first x xs one) n among)))
      | inr later ↦ later
    ])
    (λ n among. elim (from n (inr among)) [
      | inl is ↦ absurd (below-itself n (subst (λ z. IsBelow z n) (sym heads ∙ sym is)
          (among-All (IsBelow y) ys (ascending-first y ys other) n among)))
      | inr later ↦ later
    ]) in
    cc

rising-from_ascending : (names : List (List ℕ)) → AreAscending names → AreRising names
rising-from_ascending [] ascending = tt
rising-from_ascending (first ∷ others) ascending = (
  All-weaker (IsBelow first) (IsUpTo first) (up_to-from_below first) others (ascending-first first others ascending),
  rising-from_ascending others (ascending-others first others ascending),
)

-- ascending names are sorted already
pub sorted-of_ascending : (names : List (List ℕ)) → AreAscending names → sorted names ≡ names
sorted-of_ascending names ascending =
    rising_same (sorted names) names (sorted-rising names) (rising-from_ascending names ascending)
    (λ name. count-permutation name names (sorted names) (sorted-permutation names))

-- some names in an order in which they ascend are these names sorted
pub ascending-sorted : (names after : List (List ℕ)) → IsPermutation names after → AreAscending after → after ≡ sorted names
ascending-sorted names after moved ascending = sym (sorted-of_ascending after ascending) ∙ sym (sorted-same names after moved)

-- sorted names of settings are names of these settings
pub sorted-names : (p : SettingsValue) (names : List (List ℕ)) → AreNames p names → AreNames p (sorted names)
sorted-names p names valid x among = valid x ((among-sorted names x).1 among)
