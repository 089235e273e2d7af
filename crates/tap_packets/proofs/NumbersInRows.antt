-- Lists of numbers in a row, below a bound, distinct, and less others.
use Rattle.std.proofs.Common.{◌≡◌, ◌≢◌, ℕ, zero, suc, ◌+◌, ◌<◌, ◌≤◌, Bool, true, false, not, nat_eq, List, [], ◌∷◌, ◌++◌, length, map, filter, refl, ap, sym, ◌∙◌, cond, arith, subst, inl, inr, All, AllPairs}
use Rattle.std.specs.Prelude.{◌&&◌, ◌||◌}
use Rattle.std.specs.List.{range_with_len, AllByRecursion}
use Rattle.std.proofs.lemmas.Bool.{ne_eqb, eq-eqb, eqb-true, eqb-false, cases_Bool, cases_eq, or_cases, or_parts}
use Rattle.std.proofs.lemmas.List.Elements.{filter-append, All-head, All-tail, All-cons, All-nil}
use Rattle.std.proofs.lemmas.List.Folds.{list_any-append}
use Rattle.std.proofs.lemmas.List.Kept.{AllPairs-cons}
use Rattle.tap_history.specs.Moments.{has_number, numbers_less}
use Rattle.tap_history.proofs.Less.{filter-twice, not_or}

-- ---- the same facts, by recursion

-- these go up by one, from this number on
abbrev pub AreFrom : ℕ → List ℕ → Type 0
AreFrom start [] = Unit {0}
AreFrom start (number ∷ numbers) = (number ≡ start) × AreFrom (start + 1) numbers

abbrev pub AreBelow : ℕ → List ℕ → Type 0
AreBelow bound numbers = AllByRecursion (λ number. number < bound) numbers

-- no two of these are one
abbrev pub AreDistinct : List ℕ → Type 0
AreDistinct [] = Unit {0}
AreDistinct (number ∷ numbers) = (has_number numbers number ≡ false) × AreDistinct numbers

range-from : (a n : ℕ) → AreFrom a (range_with_len a n)
range-from a zero = tt
range-from a (suc n) = (refl, range-from (a + 1) n)

pub from_range : (a n : ℕ) (xs : List ℕ) → xs ≡ range_with_len a n → AreFrom a xs
from_range a n xs is = subst (AreFrom a) (sym is) (range-from a n)

pub range_of : (a : ℕ) (xs : List ℕ) → AreFrom a xs → xs ≡ range_with_len a (length xs)
range_of a [] from = refl
range_of a (x ∷ xs) from = ap (λ k. k ∷ xs) from.0 ∙ ap (λ l. a ∷ l) (range_of (a + 1) xs from.1)

has-none : (x : ℕ) (xs : List ℕ) → All (λ other. x ≢ other) xs → has_number xs x ≡ false
has-none x [] apart = refl
has-none x (y ∷ ys) apart =
    let other = All-head (λ o. x ≢ o) y ys apart in
    ap (λ b. b || has_number ys x) (ne_eqb y x (λ is. other (sym is))) ∙ has-none x ys (All-tail (λ o. x ≢ o) y ys apart)

none-has : (x : ℕ) (xs : List ℕ) → has_number xs x ≡ false → All (λ other. x ≢ other) xs
none-has x [] none = All-nil (λ o. x ≢ o)
none-has x (y ∷ ys) none =
    let parts = or_parts (nat_eq y x) (has_number ys x) none in
    All-cons (λ o. x ≢ o) y ys (λ is. eqb-false y x parts.0 (sym is)) (none-has x ys parts.1)

pub distinct_of : (xs : List ℕ) → AllPairs (λ x other. x ≢ other) xs → AreDistinct xs
distinct_of [] apart = tt
distinct_of (x ∷ xs) apart = (
  has-none x xs (λ k d within. apart zero (suc k) d (omega arith) (omega arith)),
  distinct_of xs (λ i j d less within. apart (suc i) (suc j) d (omega arith) (omega arith)),
)

pub pairs_of : (xs : List ℕ) → AreDistinct xs → AllPairs (λ x other. x ≢ other) xs
pairs_of [] distinct = λ i j d less within. absurd (omega arith)
pairs_of (x ∷ xs) distinct =
    AllPairs-cons (λ one other. one ≢ other) x xs (none-has x xs distinct.0) (pairs_of xs distinct.1)

-- ---- numbers in a row, and below a bound

pub from-append : (a : ℕ) (xs ys : List ℕ) → AreFrom a xs → AreFrom (a + length xs) ys → AreFrom a (xs ++ ys)
from-append a [] ys one two = let e : a + 0 ≡ a = omega arith in subst (λ k. AreFrom k ys) e two
from-append a (x ∷ xs) ys one two =
    let e : a + suc (length xs) ≡ (a + 1) + length xs = omega arith in
    (one.0, from-append (a + 1) xs ys one.1 (subst (λ k. AreFrom k ys) e two))

pub below-append : (b : ℕ) (xs ys : List ℕ) → AreBelow b xs → AreBelow b ys → AreBelow b (xs ++ ys)
below-append b [] ys one two = two
below-append b (x ∷ xs) ys one two = (one.0, below-append b xs ys one.1 two)

pub below-weaker : (b c : ℕ) (xs : List ℕ) → b ≤ c → AreBelow b xs → AreBelow c xs
below-weaker b c [] le h = tt
below-weaker b c (x ∷ xs) le h = let low = h.0 in (omega arith, below-weaker b c xs le h.1)

pub has-append : (xs ys : List ℕ) (n : ℕ) → has_number (xs ++ ys) n ≡ (has_number xs n || has_number ys n)
has-append xs ys n = list_any-append (λ other. nat_eq other n) xs ys

-- a number at or above the bound isn't there
pub has-below : (b n : ℕ) (xs : List ℕ) → b ≤ n → AreBelow b xs → has_number xs n ≡ false
has-below b n [] le h = refl
has-below b n (x ∷ xs) le h =
    let low = h.0 in
    ap (λ t. t || has_number xs n) (ne_eqb x n (λ e. absurd (omega arith))) ∙ has-below b n xs le h.1

-- a number that is there is below the bound
pub below-has : (b n : ℕ) (xs : List ℕ) → AreBelow b xs → has_number xs n ≡ true → n < b
below-has b n [] h is = cc
below-has b n (x ∷ xs) h is =
    elim (or_cases (nat_eq x n) (has_number xs n) is) [
      | inl here ↦ let e = eqb-true x n here in let low = h.0 in omega arith
      | inr later ↦ below-has b n xs h.1 later
    ]

-- of numbers in a row, those from the first on and below the end are there
pub has-from : (a n : ℕ) (xs : List ℕ) → AreFrom a xs → a ≤ n → n < a + length xs → has_number xs n ≡ true
has-from a n [] h low high = absurd (omega arith)
has-from a n (x ∷ xs) h low high =
    elim (cases_eq a n) [
      | inl e ↦ ap (λ t. t || has_number xs n) (eq-eqb x n (h.0 ∙ e))
      | inr ne ↦
          ap (λ t. t || has_number xs n) (ne_eqb x n (λ e. ne (sym h.0 ∙ e)))
          ∙ has-from (a + 1) n xs h.1 (omega arith) (omega arith)
    ]

-- numbers in a row lie below their end
pub below-from : (a b : ℕ) (xs : List ℕ) → AreFrom a xs → a + length xs ≤ b → AreBelow b xs
below-from a b [] h le = tt
below-from a b (x ∷ xs) h le = let e = h.0 in (omega arith, below-from (a + 1) b xs h.1 (omega arith))

-- ---- less

-- those whose key is not among the numbers
abbrev pub less : {X : Type 0} → (X → ℕ) → List X → List ℕ → List X
less key xs ended = filter (λ x. not (has_number ended (key x))) xs

pub less-ended : {X : Type 0} (key : X → ℕ) (xs : List X) (old new : List ℕ) → less key xs (old ++ new) ≡ less key (less key xs old) new
less-ended key xs old new =
    filter-twice (λ x. not (has_number old (key x))) (λ x. not (has_number new (key x))) (λ x. not (has_number (old ++ new) (key x)))
    (λ x. ap not (has-append old new (key x)) ∙ not_or (has_number old (key x)) (has_number new (key x))) xs

pub less-none : {X : Type 0} (key : X → ℕ) (xs : List X) → less key xs [] ≡ xs
less-none key [] = refl
less-none key (x ∷ xs) = ap (λ l. x ∷ l) (less-none key xs)

-- keys in a row from the bound on aren't among numbers below it
pub less-above : {X : Type 0} (key : X → ℕ) (a b : ℕ) (xs : List X) (numbers : List ℕ) → AreFrom a (map key xs) → b ≤ a → AreBelow b numbers
    → less key xs numbers ≡ xs
less-above key a b [] numbers from le below = refl
less-above {X} key a b (x ∷ xs) numbers from le below =
    let e = from.0 in
    ap (λ t. cond {A = List X} (not t) (x ∷ less key xs numbers) (less key xs numbers))
    (has-below b (key x) numbers (omega arith) below)
    ∙ ap (λ l. x ∷ l) (less-above key (a + 1) b xs numbers from.1 (omega arith) below)

-- both have grown, by keys that lie above all that are taken away
pub less-group : {X : Type 0} (key : X → ℕ) (n : ℕ) (xs ys : List X) (old new : List ℕ) → AreFrom n (map key ys) → AreBelow n old
    → AreBelow n new
    → less key (xs ++ ys) (old ++ new) ≡ less key (less key xs old) new ++ ys
less-group key n xs ys old new from one two =
    less-ended key (xs ++ ys) old new
    ∙ ap (λ l. less key l new) (filter-append (λ x. not (has_number old (key x))) xs ys)
    ∙ ap (λ l. less key (less key xs old ++ l) new) (less-above key n n ys old from (omega arith) one)
    ∙ filter-append (λ x. not (has_number new (key x))) (less key xs old) ys
    ∙ ap (λ l. less key (less key xs old) new ++ l) (less-above key n n ys new from (omega arith) two)

both_false : (a : Bool) → (a && false) ≡ false
both_false true = refl
both_false false = refl

-- what is left after a filter of one kind
pub has-less : (xs ended : List ℕ) (n : ℕ) → has_number (numbers_less xs ended) n ≡ (has_number xs n && not (has_number ended n))
has-less [] ended n = refl
has-less (x ∷ xs) ended n =
    let rest = has-less xs ended n in
    elim (cases_eq x n) [
      | inl e ↦
          elim (cases_Bool (has_number ended n)) [
            | inl there ↦
                let x_there : has_number ended x ≡ true = ap (has_number ended) e ∙ there in
                rw (x_there, rest, there) (let t = eq-eqb x n e in rw t (both_false (has_number xs n)))
            | inr gone ↦
                let x_gone : has_number ended x ≡ false = ap (has_number ended) e ∙ gone in
                rw (x_gone, gone) (let t = eq-eqb x n e in rw t refl)
          ]
      | inr ne ↦
          let t : nat_eq x n ≡ false = ne_eqb x n ne in
          elim (cases_Bool (has_number ended x)) [
            | inl there ↦ rw (there, t) rest
            | inr gone ↦ rw (gone, t) rest
          ]
    ]
