use Rattle.std.proofs.Common.{◌≡◌, Some, arith, refl, sym, ap, ◌∙◌}
use Rattle.tap_link.specs.declared.kind.Kind.TheVariants.{Pin}
use Rattle.tap_link.proofs.KeptLinks.{counted-remove, uncounted_pin}
use Rattle.tap_link.proofs.Search.{set_of, absent-kind_of, found_as, found-target, remove-without, not_pinned}
use Rattle.tap_link.proofs.set.LinkSet.forget.Goals as goal

pub returns-in_default-clause-answer : goal.returns-in_default-clause-answer
returns-in_default-clause-answer g c =
    rw (← c.self.view_is, absent-kind_of g.K.Ord.cmp c.self.inside.places c.args.by.from c.in_default.field-0 c.in_default.ensures.absent)
    refl

pub forget-requires-clause-by_target : goal.forget-requires-clause-by_target
forget-requires-clause-by_target g c =
    found-target g.K.Ord.cmp c.self.inside.places c.args.by.from c.in-Ok.at c.remove.result c.in-Ok.ensures.found c.remove.ensures.taken

pub invariant_of-self : goal.invariant_of-self
invariant_of-self g c =
    let same : Some c.remove.result ≡ Some c.link_at.result.now = sym c.remove.ensures.taken ∙ c.link_at.ensures in
    let pin : c.remove.result.kind ≡ Pin = cc in
    let none = uncounted_pin c.remove.result pin in
    rw c.remove.ensures.rest
    (counted-remove g.K.Ord.cmp (set_of c.self.inside.width c.self.inside.places) c.in-Ok.at c.self.inside.settled
    c.self.inside.settled c.remove.result c.self.invariant c.remove.ensures.taken (omega (arith, none)))

pub returns-in-Settled : goal.returns-in-Settled
returns-in-Settled g c =
    let kind = found_as g.K.Ord.cmp c.self.inside.places c.args.by.from c.in-Ok.at c.link_at.result.now c.kind.result c.in-Ok.ensures.found
    c.link_at.ensures c.kind.ensures in
    let other = not_pinned c.kind.result c.in-Settled.is in
    record { answer = rw (← c.self.view_is, kind) other; after = rw (← c.self.view_is, kind, ← other) refl }

pub returns-in-Pin-clause-answer : goal.returns-in-Pin-clause-answer
returns-in-Pin-clause-answer g c =
    let kind = found_as g.K.Ord.cmp c.self.inside.places c.args.by.from c.in-Ok.at c.link_at.result.now c.kind.result c.in-Ok.ensures.found
    c.link_at.ensures c.kind.ensures in
    rw (← c.self.view_is, kind, c.in-Pin.is) refl

pub returns-in-Pin-clause-after : goal.returns-in-Pin-clause-after
returns-in-Pin-clause-after g c =
    let kind = found_as g.K.Ord.cmp c.self.inside.places c.args.by.from c.in-Ok.at c.link_at.result.now c.kind.result c.in-Ok.ensures.found
    c.link_at.ensures c.kind.ensures in
    rw (← c.self.view_is, kind, c.in-Pin.is) (ap (set_of c.self.inside.width) (c.remove.ensures.rest
    ∙ remove-without g.K.Ord.cmp c.self.inside.places c.args.by.from c.in-Ok.at c.remove.result c.in-Ok.ensures.found))

pub returns-in_default-clause-after : goal.returns-in_default-clause-after
returns-in_default-clause-after g c =
    rw (← c.self.view_is, absent-kind_of g.K.Ord.cmp c.self.inside.places c.args.by.from c.in_default.field-0 c.in_default.ensures.absent)
    refl
