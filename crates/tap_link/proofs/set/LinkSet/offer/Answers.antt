use Rattle.std.proofs.Common.{◌≡◌, ◌+◌, true, Some, arith, refl, ap, ◌∙◌}
use Rattle.std.proofs.lemmas.Bool.{ltb-true}
use Rattle.tap_link.specs.declared.kind.Kind.TheVariants.{Settled}
use Rattle.tap_link.specs.LinkSet.{has_room, is_settled}
use Rattle.tap_link.specs.Places.{IsGapFor}
use Rattle.tap_link.proofs.KeptLinks.{counted-insert, counted_link}
use Rattle.tap_link.proofs.Search.{set_of, absent-kind_of, found-is_some, insert-with_link}
use Rattle.tap_link.proofs.set.LinkSet.offer.Goals as goal

pub invariant_of-self-in-Err : goal.invariant_of-self-in-Err
invariant_of-self-in-Err g c =
    let gap : IsGapFor g.K.Ord.cmp c.self.inside.places c.settled.result.target c.in-Err.at =
    rw c.settled.ensures.target c.in-Err.ensures.absent in
    let room : has_room (set_of c.self.inside.width c.self.inside.places) ≡ true = cc in
    let settled : is_settled (Some c.settled.result.kind) ≡ true = rw c.settled.ensures.kind refl in
    rw c.in_ok-insert-in-Err.ensures.ok
    (counted-insert g.K.Ord.cmp g.met.K.Ord.total (set_of c.self.inside.width c.self.inside.places) c.settled.result c.in-Err.at
    c.self.inside.settled (c.self.inside.settled + 1) c.self.invariant gap (λ _. ltb-true _ _ room)
    (omega (arith, counted_link c.settled.result settled)))

pub returns-in-Ok-clause-answer : goal.returns-in-Ok-clause-answer
returns-in-Ok-clause-answer g c =
    rw (← c.self.view_is, found-is_some g.K.Ord.cmp c.self.inside.places c.args.target c.in-Ok.field-0 c.in-Ok.ensures.found) refl

pub returns-in_ok-insert-in-Err-clause-answer : goal.returns-in_ok-insert-in-Err-clause-answer
returns-in_ok-insert-in-Err-clause-answer g c =
    let room : has_room (set_of c.self.inside.width c.self.inside.places) ≡ true = cc in
    rw (← c.self.view_is, absent-kind_of g.K.Ord.cmp c.self.inside.places c.args.target c.in-Err.at c.in-Err.ensures.absent, room) refl

pub returns-in_ok-insert-in-Err-clause-after : goal.returns-in_ok-insert-in-Err-clause-after
returns-in_ok-insert-in-Err-clause-after g c =
    let room : has_room (set_of c.self.inside.width c.self.inside.places) ≡ true = cc in
    let absent = absent-kind_of g.K.Ord.cmp c.self.inside.places c.args.target c.in-Err.at c.in-Err.ensures.absent in
    rw (← c.self.view_is, absent, room) (ap (set_of c.self.inside.width) (c.in_ok-insert-in-Err.ensures.ok
    ∙ insert-with_link g.K.Ord.cmp c.self.inside.places c.args.target c.in-Err.at c.settled.result Settled c.in-Err.ensures.absent
    c.settled.ensures.target c.settled.ensures.kind))

pub returns-in-Ok-clause-after : goal.returns-in-Ok-clause-after
returns-in-Ok-clause-after g c =
    rw (← c.self.view_is, found-is_some g.K.Ord.cmp c.self.inside.places c.args.target c.in-Ok.field-0 c.in-Ok.ensures.found) refl

pub returns-in_err-insert-in-Err-clause-linked : goal.returns-in_err-insert-in-Err-clause-linked
returns-in_err-insert-in-Err-clause-linked g c linked =
    let absent = absent-kind_of g.K.Ord.cmp c.self.inside.places c.args.target c.in-Err.at c.in-Err.ensures.absent in
    let wrong = rw (← c.self.view_is, absent) at linked in
    cc
