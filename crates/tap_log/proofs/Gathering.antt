-- Lists that a loop over records gathers.
-- Cited above: last_is
use Rattle.std.proofs.Common.{◌≡◌, ℕ, zero, suc, ◌+◌, ◌<◌, Bool, true, false, arith, List, [], ◌∷◌, ◌++◌, length, take, drop, ◌-◌, length-drop, get_or, Option, None, Some, refl, ap, sym, ◌∙◌, append-nil}
use Rattle.std.specs.Prelude.{◌||◌, slice_get}
use Rattle.std.specs.List.{filter_map, cons_option, list_any, last_or}
use Rattle.std.proofs.lemmas.List.Folds.{list_any-append}
use Rattle.std.proofs.lemmas.List.{take_more, take_all}
use Rattle.std.proofs.lemmas.List.Elements.{filter_map-append}

next_is : {X Y : Type 0} (h : X → Option Y) (xs : List X) (i : ℕ) (x : X) → i < length xs → x ≡ get_or xs i x
    → filter_map h (take (i + 1) xs) ≡ filter_map h (take i xs) ++ cons_option (h x) []
next_is h xs i x within is =
    ap (filter_map h) (take_more xs i x within ∙ ap (λ y. take i xs ++ y ∷ []) (sym is)) ∙ filter_map-append h (take i xs) (x ∷ [])

-- the next item gives something more
pub gathered_more : {X Y : Type 0} (h : X → Option Y) (xs : List X) (i : ℕ) (x : X) (y : Y) (found new : List Y) → i < length xs
    → x ≡ get_or xs i x
    → found ≡ filter_map h (take i xs) → h x ≡ Some y → new ≡ found ++ y ∷ [] → new ≡ filter_map h (take (i + 1) xs)
gathered_more h xs i x y found new within is so_far gives grown =
    grown ∙ ap (λ l. l ++ y ∷ []) so_far ∙ ap (λ o. filter_map h (take i xs) ++ cons_option o []) (sym gives)
    ∙ sym (next_is h xs i x within is)

-- the next item gives nothing
pub gathered_same : {X Y : Type 0} (h : X → Option Y) (xs : List X) (i : ℕ) (x : X) (found : List Y) → i < length xs → x ≡ get_or xs i x
    → found ≡ filter_map h (take i xs) → h x ≡ None → found ≡ filter_map h (take (i + 1) xs)
gathered_same h xs i x found within is so_far gives =
    so_far ∙ sym (append-nil (filter_map h (take i xs))) ∙ ap (λ o. filter_map h (take i xs) ++ cons_option o []) (sym gives)
    ∙ sym (next_is h xs i x within is)

or_true : (b : Bool) → (b || true) ≡ true
or_true true = refl
or_true false = refl

any_after : {Y : Type 0} (o : Option Y) (test : Y → Bool) (ys : List Y) → list_any test ys ≡ true → list_any test (cons_option o ys) ≡ true
any_after None test ys any = any
any_after (Some y) test ys any = ap (λ b. test y || b) any ∙ or_true (test y)

-- an item gives something that passes the test
pub any_found : {X Y : Type 0} (h : X → Option Y) (test : Y → Bool) (xs : List X) (i : ℕ) (x : X) (y : Y) → i < length xs
    → x ≡ get_or xs i x
    → h x ≡ Some y → test y ≡ true → list_any test (filter_map h xs) ≡ true
any_found h test [] i x y within is gives passes = absurd (omega arith)
any_found h test (first ∷ xs) zero x y within is gives passes =
    ap (λ o. list_any test (cons_option o (filter_map h xs))) (ap h (sym is) ∙ gives)
    ∙ ap (λ b. b || list_any test (filter_map h xs)) passes
any_found h test (first ∷ xs) (suc i) x y within is gives passes =
    any_after (h first) test (filter_map h xs) (any_found h test xs i x y (omega arith) is gives passes)

-- no item so far does, and the next one gives nothing
pub none_more : {X Y : Type 0} (h : X → Option Y) (test : Y → Bool) (xs : List X) (i : ℕ) (x : X) → i < length xs → x ≡ get_or xs i x
    → list_any test (filter_map h (take i xs)) ≡ false → h x ≡ None → list_any test (filter_map h (take (i + 1) xs)) ≡ false
none_more h test xs i x within is none gives =
    ap (list_any test) (sym (gathered_same h xs i x (filter_map h (take i xs)) within is refl gives)) ∙ none

-- no item so far does, and what the next one gives doesn't pass
pub none_passes : {X Y : Type 0} (h : X → Option Y) (test : Y → Bool) (xs : List X) (i : ℕ) (x : X) (y : Y) → i < length xs
    → x ≡ get_or xs i x
    → list_any test (filter_map h (take i xs)) ≡ false → h x ≡ Some y → test y ≡ false
    → list_any test (filter_map h (take (i + 1) xs)) ≡ false
none_passes h test xs i x y within is none gives fails =
    ap (list_any test) (sym (gathered_more h xs i x y (filter_map h (take i xs))
    (filter_map h (take i xs) ++ y ∷ []) within is refl gives refl))
    ∙ list_any-append test (filter_map h (take i xs)) (y ∷ [])
    ∙ ap (λ b. b || (test y || false)) none ∙ ap (λ b. b || false) fails

-- what `&xs[i..]` is
pub rest_from : {X : Type 0} (xs : List X) (i : ℕ) → take (length xs - i) (drop i xs) ≡ drop i xs
rest_from xs i = let drops = length-drop i xs in take_all (length xs - i) (drop i xs) (omega (arith, drops))

last_after : {X : Type 0} (x : X) (xs : List X) → slice_get (x ∷ xs) (length xs) ≡ last_or (Some x) xs
last_after x [] = refl
last_after x (y ∷ ys) = last_after y ys

-- the last item, by its place
pub last_is : {X : Type 0} (xs : List X) → slice_get xs (length xs - 1) ≡ last_or None xs
last_is [] = refl
last_is (x ∷ xs) = let e : length (x ∷ xs) - 1 ≡ length xs = omega arith in ap (slice_get (x ∷ xs)) e ∙ last_after x xs

-- ---- the first item that gives something

none_given : {Y : Type 0} (given : Option Y) (others : List Y) → cons_option given others ≡ [] → (given ≡ None) × (others ≡ [])
none_given None others none = (refl, none)
none_given (Some y) others none = absurd (cc)

pub first_given : {X Y : Type 0} (h : X → Option Y) (xs : List X) (i : ℕ) (x : X) (y : Y) → i < length xs → x ≡ get_or xs i x
    → filter_map h (take i xs) ≡ [] → h x ≡ Some y → slice_get (filter_map h xs) 0 ≡ Some y
first_given h [] i x y within is none gives = absurd (omega arith)
first_given h (first ∷ xs) zero x y within is none gives =
    ap (λ o. slice_get (cons_option o (filter_map h xs)) 0) (ap h (sym is) ∙ gives)
first_given h (first ∷ xs) (suc i) x y within is none gives =
    let none_here = none_given (h first) (filter_map h (take i xs)) none in
    ap (λ o. slice_get (cons_option o (filter_map h xs)) 0) none_here.0
    ∙ first_given h xs i x y (omega arith) is none_here.1 gives
