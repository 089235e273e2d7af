-- steps of reading that did not fail
-- Cited above: bind_ok, digits_ok
use Rattle.std.proofs.Common.{◌≡◌, ℕ, Bool, true, false, List, Option, Some, None, Result, Ok, Err, refl, ap, ◌∙◌}
use Rattle.tap_wire.specs.declared.fault.Broken.{Broken}
use Rattle.tap_wire.specs.Fields.{◌>>=◌, field, digits_unless}

-- the value of a step that did not fail
pub bind_ok : {X Y E : Type 0} (r : Result X E) (next : X → Result Y E) (y : Y) → (r >>= next) ≡ Ok y → (x : X) × (r ≡ Ok x)
    × (next x ≡ Ok y)
bind_ok (Ok x) next y e = (x, refl, e)
bind_ok (Err fault) next y e = absurd cc

-- a step that did not fail goes on
pub bind_is : {X Y E : Type 0} (r : Result X E) (next : X → Result Y E) (x : X) (y : Result Y E) → r ≡ Ok x → next x ≡ y → (r >>= next) ≡ y
bind_is (Ok z) next x y e h = let same : z ≡ x = cc in ap next same ∙ h
bind_is (Err fault) next x y e h = absurd cc

-- a field that did not fail keeps its rule
pub field_ok : {X : Type 0} (holds : Bool) (place : ℕ) (x y : X) → field holds place x ≡ Ok y → (holds ≡ true) × (x ≡ y)
field_ok true place x y e = (refl, cc)
field_ok false place x y e = absurd cc

-- a field that keeps its rule doesn't fail
pub field_is : {X : Type 0} (holds : Bool) (place : ℕ) (x : X) → holds ≡ true → field holds place x ≡ Ok x
field_is true place x e = refl
field_is false place x e = absurd cc

-- digits of which none was bad
pub digits_ok : {E : Type 0} (bad : ℕ → E) (digits name : List ℕ) (first : Option ℕ) → digits_unless bad digits first ≡ Ok name
    → (digits ≡ name) × (first ≡ None)
digits_ok bad digits name None e = (cc, refl)
digits_ok bad digits name (Some at) e = absurd cc

abbrev value_of : {X : Type 0} → X → Result X Broken
value_of x = Ok x

pub ok_is : {X : Type 0} (x y : X) → value_of x ≡ value_of y → x ≡ y
ok_is x y e = cc
