-- The states of a sink, one after another.
-- Cited above: Follows-refl, Follows-trans, Grows-trans
use Rattle.std.proofs.Common.{ℕ, List, [], ◌∷◌, ◌++◌, Option, refl, ◌∙◌, arith}
use Rattle.std.proofs.KnownBytes.{Appends-nil, Appends-trans}
use Rattle.tap_io.specs.Sink.{EachGrows, Grows, IsAfterWrites, SinkBehind, SinkState}

-- Known bytes grow twice.
pub Grows-trans : (old mid new : Option (List ℕ)) → Grows old mid → Grows mid new → Grows old new
Grows-trans old mid new p q = (p.0 ++ q.0, Appends-trans old mid new p.0 q.0 p.1 q.1)

EachGrows-refl : (behind : List SinkBehind) → EachGrows behind behind
EachGrows-refl [] = tt
EachGrows-refl (x ∷ xs) = (refl, ([], Appends-nil x.held), EachGrows-refl xs)

EachGrows-trans : (old mid new : List SinkBehind) → EachGrows old mid → EachGrows mid new → EachGrows old new
EachGrows-trans [] [] [] p q = tt
EachGrows-trans [] [] (z ∷ zs) p q = absurd q
EachGrows-trans [] (y ∷ ys) new p q = absurd p
EachGrows-trans (x ∷ xs) [] new p q = absurd p
EachGrows-trans (x ∷ xs) (y ∷ ys) [] p q = absurd q
EachGrows-trans (x ∷ xs) (y ∷ ys) (z ∷ zs) p q =
    (q.0 ∙ p.0, Grows-trans x.held y.held z.held p.1 q.1, EachGrows-trans xs ys zs p.2 q.2)

-- A sink to which nothing was written goes on as it is.
pub Follows-refl : (state : SinkState) → IsAfterWrites state state
Follows-refl state = record { later = omega arith; behind = EachGrows-refl state.behind }

-- Some writes, and then some more.
pub Follows-trans : (old mid new : SinkState) → IsAfterWrites old mid → IsAfterWrites mid new → IsAfterWrites old new
Follows-trans old mid new p q =
    record { later = omega (arith, p.later, q.later); behind = EachGrows-trans old.behind mid.behind new.behind p.behind q.behind }
