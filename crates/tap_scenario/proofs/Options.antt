-- what a value that was found says of what it was found from
-- Cited above: and_then-back, find-passes, option_map-back
use Rattle.std.proofs.Common.{◌≡◌, Bool, true, List, [], ◌∷◌, Option, None, Some, Ok, option_map, ◌⊎◌, refl, ap, inl, inr}
use Rattle.std.specs.List.{find}
use Rattle.std.specs.Option.{ok_or, option_and_then, option_or, option_zip}
use Rattle.std.proofs.lemmas.Bool.{cases_Bool}
use Rattle.tap_scenario.specs.Value.{cons_both}

-- the value that was mapped
pub option_map-back : {A B : Type 0} (f : A → B) (o : Option A) (y : B) → option_map f o ≡ Some y → (x : A) × (o ≡ Some x) × (f x ≡ y)
option_map-back f None y mapped = absurd (cc)
option_map-back f (Some x) y mapped = (x, refl, cc)

-- the two values of a pair
pub option_zip-back : {A B : Type 0} (a : Option A) (b : Option B) (pair : A × B) → option_zip a b ≡ Some pair
    → (a ≡ Some pair.0) × (b ≡ Some pair.1)
option_zip-back None b pair zipped = absurd (cc)
option_zip-back (Some x) None pair zipped = absurd (cc)
option_zip-back (Some x) (Some y) pair zipped =
    let same : (x, y) ≡ pair = cc in (ap (λ both. Some both.0) same, ap (λ both. Some both.1) same)

-- the value that a next step was taken from
pub and_then-back : {A B : Type 0} (f : A → Option B) (o : Option A) (y : B) → option_and_then f o ≡ Some y
    → (x : A) × (o ≡ Some x) × (f x ≡ Some y)
and_then-back f None y e = absurd (cc)
and_then-back f (Some x) y e = (x, refl, e)

-- the value that stood before a fault was offered in its place
pub ok_or-Ok : {A E : Type 0} (o : Option A) (fault : E) (x : A) → ok_or o fault ≡ Ok x → o ≡ Some x
ok_or-Ok None fault x e = absurd (cc)
ok_or-Ok (Some y) fault x e = cc

-- what is found passes
pub find-passes : {X : Type 0} (test : X → Bool) (xs : List X) (x : X) → find test xs ≡ Some x → test x ≡ true
find-passes test [] x found = absurd (cc)
find-passes test (y ∷ ys) x found =
    elim (cases_Bool (test y)) [
      | inl passes ↦ let whole : Some y ≡ Some x = rw passes at found in let same : y ≡ x = cc in rw (← same) passes
      | inr fails ↦ find-passes test ys x (rw fails at found)
    ]

-- both that stand at the front and after it
pub cons_both-back : {A : Type 0} (first : Option A) (others : Option (List A)) (all : List A) → cons_both first others ≡ Some all
    → (x : A) × (xs : List A) × (first ≡ Some x) × (others ≡ Some xs) × (x ∷ xs ≡ all)
cons_both-back None others all e = absurd (cc)
cons_both-back (Some x) None all e = absurd (cc)
cons_both-back (Some x) (Some xs) all e = (x, xs, refl, refl, cc)

-- the one of two that is there
pub option_or-back : {A : Type 0} (a b : Option A) (x : A) → option_or a b ≡ Some x → (a ≡ Some x) ⊎ (b ≡ Some x)
option_or-back None b x e = inr e
option_or-back (Some y) b x e = inl e

-- neither of two is there
pub option_or-None : {A : Type 0} (a b : Option A) → option_or a b ≡ None → a ≡ None
option_or-None None b e = refl
option_or-None (Some y) b e = absurd (cc)
