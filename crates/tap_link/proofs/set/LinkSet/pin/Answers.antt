use Rattle.std.proofs.Common.{◌≡◌, true, arith, refl, sym, ap, ◌∙◌, Some}
use Rattle.tap_link.specs.declared.kind.Kind.TheVariants.{Pin}
use Rattle.tap_link.specs.LinkSet.{is_settled}
use Rattle.tap_link.specs.Places.{IsGapFor}
use Rattle.tap_link.proofs.KeptLinks.{counted-insert, uncounted_pin}
use Rattle.tap_link.proofs.Search.{set_of, absent-kind_of, found-is_some, insert-with_link}
use Rattle.tap_link.proofs.set.LinkSet.pin.Goals as goal

pub invariant_of-self-in-Err : goal.invariant_of-self-in-Err
invariant_of-self-in-Err g c =
    let gap : IsGapFor g.K.Ord.cmp c.self.inside.places c.pin.result.target c.in-Err.at = rw c.pin.ensures.target c.in-Err.ensures.absent in
    rw c.in_ok-insert-in-Err.ensures.ok
    (counted-insert g.K.Ord.cmp g.met.K.Ord.total (set_of c.self.inside.width c.self.inside.places) c.pin.result c.in-Err.at
    c.self.inside.settled c.self.inside.settled c.self.invariant gap
    (λ settled. let wrong : is_settled (Some Pin) ≡ true = rw c.pin.ensures.kind at settled in cc)
    (omega (arith, uncounted_pin c.pin.result c.pin.ensures.kind)))

pub returns-in-Ok-clause-answer : goal.returns-in-Ok-clause-answer
returns-in-Ok-clause-answer g c =
    rw (← c.self.view_is) (sym (found-is_some g.K.Ord.cmp c.self.inside.places c.args.target c.in-Ok.field-0 c.in-Ok.ensures.found))

pub returns-in_ok-insert-in-Err-clause-answer : goal.returns-in_ok-insert-in-Err-clause-answer
returns-in_ok-insert-in-Err-clause-answer g c =
    rw (← c.self.view_is, absent-kind_of g.K.Ord.cmp c.self.inside.places c.args.target c.in-Err.at c.in-Err.ensures.absent) refl

pub returns-in_ok-insert-in-Err-clause-after : goal.returns-in_ok-insert-in-Err-clause-after
returns-in_ok-insert-in-Err-clause-after g c =
    let absent = absent-kind_of g.K.Ord.cmp c.self.inside.places c.args.target c.in-Err.at c.in-Err.ensures.absent in
    rw (← c.self.view_is, absent) (ap (set_of c.self.inside.width) (c.in_ok-insert-in-Err.ensures.ok
    ∙ insert-with_link g.K.Ord.cmp c.self.inside.places c.args.target c.in-Err.at c.pin.result Pin c.in-Err.ensures.absent
    c.pin.ensures.target c.pin.ensures.kind))

pub returns-in-Ok-clause-after : goal.returns-in-Ok-clause-after
returns-in-Ok-clause-after g c =
    rw (← c.self.view_is, found-is_some g.K.Ord.cmp c.self.inside.places c.args.target c.in-Ok.field-0 c.in-Ok.ensures.found) refl

pub returns-in_err-insert-in-Err-clause-linked : goal.returns-in_err-insert-in-Err-clause-linked
returns-in_err-insert-in-Err-clause-linked g c linked =
    let absent = absent-kind_of g.K.Ord.cmp c.self.inside.places c.args.target c.in-Err.at c.in-Err.ensures.absent in
    let wrong = rw (← c.self.view_is, absent) at linked in
    cc
