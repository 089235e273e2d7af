-- Tests that are joined.
use Rattle.std.proofs.Common.{◌≡◌, Bool, true, false, not, refl, sym, cond}
use Rattle.std.specs.Prelude.{◌&&◌, ◌||◌}

-- a test, or one that never passes
pub or_no : (a : Bool) → (a || false) ≡ a
or_no true = refl
or_no false = refl

-- a test, and one that never passes
pub and_no : (a : Bool) → false ≡ (a && false)
and_no true = refl
and_no false = refl

-- a test, and one that always passes
pub and_yes : (a : Bool) → a ≡ (a && true)
and_yes true = refl
and_yes false = refl

-- if both pass, the first one does
pub both_left : (a b : Bool) → (a && b) ≡ true → a ≡ true
both_left true b is = refl
both_left false b is = is

-- and the second one
pub both_right : (a b : Bool) → (a && b) ≡ true → b ≡ true
both_right true b is = is
both_right false b is = absurd (cc)

-- Of a first element that stays if it passes, and others that pass: one that is looked for is there if it passes, and is the first
-- one or among the others.
pub passes_or : (px sx pq rest : Bool) → (sx ≡ true → px ≡ pq)
    → cond {A = Bool} px (sx || (pq && rest)) (pq && rest) ≡ (pq && (sx || rest))
passes_or true true true rest same = refl
passes_or true true false rest same = absurd (let wrong = same refl in cc)
passes_or true false pq rest same = refl
passes_or false true true rest same = absurd (let wrong = same refl in cc)
passes_or false true false rest same = refl
passes_or false false pq rest same = refl

-- What is there and stays, or comes, and goes by neither of two: it goes by the second one, or it stays or comes and goes by the first.
pub stays_or_comes : (comes goes there departed departs : Bool)
    → ((comes || (not goes && there)) && not (departed || departs))
    ≡ (not departs && ((not goes && (there && not departed)) || (not departed && comes)))
stays_or_comes comes goes there true true = sym (and_no _)
stays_or_comes comes goes there false true = sym (and_no _)
stays_or_comes comes true there true false = sym (and_no _)
stays_or_comes comes false true true false = sym (and_no _)
stays_or_comes comes false false true false = sym (and_no _)
stays_or_comes true true there false false = refl
stays_or_comes true false true false false = refl
stays_or_comes true false false false false = refl
stays_or_comes false true there false false = refl
stays_or_comes false false true false false = refl
stays_or_comes false false false false false = refl
