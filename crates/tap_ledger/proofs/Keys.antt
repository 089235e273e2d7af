-- Which pairs are kept once one comes or one goes.
use Rattle.std.proofs.Common.{◌≡◌, Bool, true, false, not, Option, None, refl, ap, sym, ◌∙◌, cond}
use Rattle.std.specs.Prelude.{◌&&◌, ◌||◌}
use Rattle.tap_log.specs.declared.record.Pair.{Pair}
use Rattle.tap_ledger.specs.Pairs.{key_after}

-- a pair is there once one comes, if it is that one or was there
pub comes : (same there : Bool) → cond {A = Bool} same true there ≡ (same || there)
comes true there = refl
comes false there = refl

-- a pair is there once one goes, if it is not that one and was there
pub goes : (same there : Bool) → cond {A = Bool} same false there ≡ (not same && there)
goes true there = refl
goes false there = refl

-- the pairs stay if none is withdrawn and none published
pub keys_stay : (has : Pair → Bool) (withdrawn published : Option Pair) (q : Pair) → withdrawn ≡ None → published ≡ None
    → has q ≡ key_after has withdrawn published q
keys_stay has withdrawn published q no_withdrawn no_published =
    sym (ap (λ w. key_after has w published q) no_withdrawn ∙ ap (λ p. key_after has None p q) no_published)
