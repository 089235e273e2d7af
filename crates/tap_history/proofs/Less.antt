-- A list less another one, after one of them has grown.
-- Cited above: filter-twice, filter_map_within, filter_within, less_by-more, less_by-none, not_or
use Rattle.std.proofs.Common.{◌≡◌, ℕ, ◌+◌, ◌≤◌, Bool, true, false, List, [], ◌∷◌, ◌++◌, length, filter, not, Option, None, Some, refl, ap, sym, ◌∙◌, cond, arith}
use Rattle.std.specs.Prelude.{◌&&◌, ◌||◌}
use Rattle.std.specs.List.{cons_option, filter_map, list_any}
use Rattle.std.proofs.lemmas.List.Elements.{filter-append}
use Rattle.std.proofs.lemmas.List.Folds.{list_any-append}

twice-step : {X : Type 0} (q : X → Bool) (a b : Bool) (x : X) (ys : List X) → q x ≡ b
    → cond {A = List X} (a && b) (x ∷ filter q ys) (filter q ys) ≡ filter q (cond {A = List X} a (x ∷ ys) ys)
twice-step {X} q true b x ys is = ap (λ c. cond {A = List X} c (x ∷ filter q ys) (filter q ys)) (sym is)
twice-step q false b x ys is = refl

-- two tests, one after the other
pub filter-twice : {X : Type 0} (p q r : X → Bool) → ((x : X) → r x ≡ (p x && q x)) → (xs : List X) → filter r xs ≡ filter q (filter p xs)
filter-twice p q r is [] = refl
filter-twice {X} p q r is (x ∷ xs) =
    ap (λ l. cond {A = List X} (r x) (x ∷ l) l) (filter-twice p q r is xs)
    ∙ ap (λ c. cond {A = List X} c (x ∷ filter q (filter p xs)) (filter q (filter p xs))) (is x)
    ∙ twice-step q (p x) (q x) x (filter p xs) refl

and_swaps : (a b : Bool) → (a && b) ≡ (b && a)
and_swaps true true = refl
and_swaps true false = refl
and_swaps false true = refl
and_swaps false false = refl

pub filter-swaps : {X : Type 0} (p q : X → Bool) (xs : List X) → filter p (filter q xs) ≡ filter q (filter p xs)
filter-swaps p q xs =
    sym (filter-twice q p (λ x. q x && p x) (λ x. refl) xs) ∙ filter-twice p q (λ x. q x && p x) (λ x. and_swaps (q x) (p x)) xs

-- the first list less the second one, by a test of whether two are the same
abbrev pub less_by : {X : Type 0} → (X → X → Bool) → List X → List X → List X
less_by same xs ended = filter (λ x. not (list_any (λ other. same other x) ended)) xs

pub not_or : (a b : Bool) → not (a || b) ≡ (not a && not b)
not_or true b = refl
not_or false b = refl

pub less_by-ended : {X : Type 0} (same : X → X → Bool) (xs ended more : List X)
    → less_by same xs (ended ++ more) ≡ less_by same (less_by same xs ended) more
less_by-ended same xs ended more =
    filter-twice (λ x. not (list_any (λ other. same other x) ended)) (λ x. not (list_any (λ other. same other x) more))
    (λ x. not (list_any (λ other. same other x) (ended ++ more)))
    (λ x. ap not (list_any-append (λ other. same other x) ended more)
    ∙ not_or (list_any (λ other. same other x) ended) (list_any (λ other. same other x) more)) xs

-- both have grown
pub less_by-more : {X : Type 0} (same : X → X → Bool) (xs ys ended more : List X)
    → less_by same (xs ++ ys) (ended ++ more) ≡ less_by same (less_by same xs ended ++ less_by same ys ended) more
less_by-more same xs ys ended more =
    less_by-ended same (xs ++ ys) ended more ∙ ap (λ l. less_by same l more)
    (filter-append (λ x. not (list_any (λ other. same other x) ended)) xs ys)

pub less_by-none : {X : Type 0} (same : X → X → Bool) (xs : List X) → less_by same xs [] ≡ xs
less_by-none same [] = refl
less_by-none same (x ∷ xs) = ap (λ l. x ∷ l) (less_by-none same xs)

-- ---- lengths

one_more : {X : Type 0} (passes : Bool) (x : X) (ys : List X) (n : ℕ) → length ys ≤ n
    → length (cond {A = List X} passes (x ∷ ys) ys) ≤ n + 1
one_more true x ys n within = omega arith
one_more false x ys n within = omega arith

pub filter_within : {X : Type 0} (p : X → Bool) (xs : List X) → length (filter p xs) ≤ length xs
filter_within p [] = omega arith
filter_within p (x ∷ xs) =
    let within = one_more (p x) x (filter p xs) (length xs) (filter_within p xs) in omega (arith, within)

one_given : {Y : Type 0} (given : Option Y) (ys : List Y) (n : ℕ) → length ys ≤ n → length (cons_option given ys) ≤ n + 1
one_given None ys n within = omega arith
one_given (Some y) ys n within = omega arith

pub filter_map_within : {X Y : Type 0} (h : X → Option Y) (xs : List X) → length (filter_map h xs) ≤ length xs
filter_map_within h [] = omega arith
filter_map_within h (x ∷ xs) =
    let within = one_given (h x) (filter_map h xs) (length xs) (filter_map_within h xs) in omega (arith, within)
