use Rattle.std.proofs.Common.{◌≡◌, ◌-◌, true, Some, arith, refl, ap, ◌∙◌}
use Rattle.tap_link.specs.LinkSet.{is_settled}
use Rattle.tap_link.specs.declared.kind.Kind.TheVariants.{Leaving}
use Rattle.tap_link.proofs.KeptLinks.{counted-set, counted_link, one_counted}
use Rattle.tap_link.proofs.Search.{set_of, absent-kind_of, found_as, set-with_kind, not_settled}
use Rattle.tap_link.proofs.set.LinkSet.mark_leaving.Goals as goal

pub returns-in_default-clause-answer : goal.returns-in_default-clause-answer
returns-in_default-clause-answer g c =
    rw (← c.self.view_is, absent-kind_of g.K.Ord.cmp c.self.inside.places c.args.target c.in_default.field-0 c.in_default.ensures.absent)
    refl

pub invariant_of-self : goal.invariant_of-self
invariant_of-self g c =
    let settled : is_settled (Some c.link_at.result.now.kind) ≡ true = cc in
    let some = one_counted g.K.Ord.cmp (set_of c.self.inside.width c.self.inside.places) c.in-Ok.at c.self.inside.settled
    c.link_at.result.now c.self.invariant c.link_at.ensures settled in
    rw (c.mark_leaving.ensures c.link_at.result.now c.link_at.ensures)
    (counted-set g.K.Ord.cmp (set_of c.self.inside.width c.self.inside.places) c.in-Ok.at c.self.inside.settled
    (c.self.inside.settled - 1) c.link_at.result.now Leaving c.self.invariant c.link_at.ensures (λ settled. cc)
    (omega (arith, counted_link c.link_at.result.now settled, some)))

pub returns-in-Pin : goal.returns-in-Pin
returns-in-Pin g c =
    let kind = found_as g.K.Ord.cmp c.self.inside.places c.args.target c.in-Ok.at c.link_at.result.now c.kind.result c.in-Ok.ensures.found
    c.link_at.ensures c.kind.ensures in
    let other = not_settled c.kind.result c.in-Pin.is in
    record { answer = rw (← c.self.view_is, kind) other; after = rw (← c.self.view_is, kind, ← other) refl }

pub returns-in-Settled-clause-answer : goal.returns-in-Settled-clause-answer
returns-in-Settled-clause-answer g c =
    let kind = found_as g.K.Ord.cmp c.self.inside.places c.args.target c.in-Ok.at c.link_at.result.now c.kind.result c.in-Ok.ensures.found
    c.link_at.ensures c.kind.ensures in
    rw (← c.self.view_is, kind, c.in-Settled.is) refl

pub returns-in-Settled-clause-after : goal.returns-in-Settled-clause-after
returns-in-Settled-clause-after g c =
    let kind = found_as g.K.Ord.cmp c.self.inside.places c.args.target c.in-Ok.at c.link_at.result.now c.kind.result c.in-Ok.ensures.found
    c.link_at.ensures c.kind.ensures in
    rw (← c.self.view_is, kind, c.in-Settled.is) (ap (set_of c.self.inside.width)
    (c.mark_leaving.ensures c.link_at.result.now c.link_at.ensures
    ∙ set-with_kind g.K.Ord.cmp c.self.inside.places c.args.target c.in-Ok.at c.link_at.result.now Leaving c.in-Ok.ensures.found
    c.link_at.ensures))

pub returns-in_default-clause-after : goal.returns-in_default-clause-after
returns-in_default-clause-after g c =
    rw (← c.self.view_is, absent-kind_of g.K.Ord.cmp c.self.inside.places c.args.target c.in_default.field-0 c.in_default.ensures.absent)
    refl

pub overflow_sub-self : goal.overflow_sub-self
overflow_sub-self g c =
    let settled : is_settled (Some c.link_at.result.now.kind) ≡ true = cc in
    one_counted g.K.Ord.cmp (set_of c.self.inside.width c.self.inside.places) c.in-Ok.at c.self.inside.settled c.link_at.result.now
    c.self.invariant c.link_at.ensures settled
