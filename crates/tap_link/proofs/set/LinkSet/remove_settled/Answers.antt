use Rattle.std.proofs.Common.{◌≡◌, ◌-◌, true, Some, arith, refl, sym, ap, ◌∙◌}
use Rattle.tap_link.specs.declared.kind.Kind.TheVariants.{Leaving}
use Rattle.tap_link.specs.LinkSet.{is_settled}
use Rattle.tap_link.proofs.KeptLinks.{counted-remove, counted_link, one_counted, uncounted_leaving}
use Rattle.tap_link.proofs.Search.{set_of, absent-kind_of, found_as, remove-without}
use Rattle.tap_link.proofs.set.LinkSet.remove_settled.Goals as goal

pub returns-in_default-clause-answer : goal.returns-in_default-clause-answer
returns-in_default-clause-answer g c =
    rw (← c.self.view_is, absent-kind_of g.K.Ord.cmp c.self.inside.places c.args.target c.in_default.field-0 c.in_default.ensures.absent)
    refl

pub overflow_sub-self : goal.overflow_sub-self
overflow_sub-self g c =
    let settled : is_settled (Some c.link_at.result.now.kind) ≡ true = cc in
    one_counted g.K.Ord.cmp (set_of c.self.inside.width c.self.inside.places) c.in-Ok.at c.self.inside.settled c.link_at.result.now
    c.self.invariant c.link_at.ensures settled

pub invariant_of-self : goal.invariant_of-self
invariant_of-self g c =
    let same : Some c.remove.result ≡ Some c.link_at.result.now = sym c.remove.ensures.taken ∙ c.link_at.ensures in
    let settled : is_settled (Some c.remove.result.kind) ≡ true = cc in
    let some = one_counted g.K.Ord.cmp (set_of c.self.inside.width c.self.inside.places) c.in-Ok.at c.self.inside.settled
    c.remove.result c.self.invariant c.remove.ensures.taken settled in
    rw c.remove.ensures.rest
    (counted-remove g.K.Ord.cmp (set_of c.self.inside.width c.self.inside.places) c.in-Ok.at c.self.inside.settled
    (c.self.inside.settled - 1) c.remove.result c.self.invariant c.remove.ensures.taken
    (omega (arith, counted_link c.remove.result settled, some)))

pub invariant_of-self-in-Leaving : goal.invariant_of-self-in-Leaving
invariant_of-self-in-Leaving g c =
    let same : Some c.remove-in-Leaving.result ≡ Some c.link_at.result.now =
    sym c.remove-in-Leaving.ensures.taken ∙ c.link_at.ensures in
    let leaving : c.remove-in-Leaving.result.kind ≡ Leaving = cc in
    let none = uncounted_leaving c.remove-in-Leaving.result leaving in
    rw c.remove-in-Leaving.ensures.rest
    (counted-remove g.K.Ord.cmp (set_of c.self.inside.width c.self.inside.places) c.in-Ok.at c.self.inside.settled
    c.self.inside.settled c.remove-in-Leaving.result c.self.invariant c.remove-in-Leaving.ensures.taken (omega (arith, none)))

pub returns-in-Pin-clause-answer : goal.returns-in-Pin-clause-answer
returns-in-Pin-clause-answer g c =
    let kind = found_as g.K.Ord.cmp c.self.inside.places c.args.target c.in-Ok.at c.link_at.result.now c.kind.result c.in-Ok.ensures.found
    c.link_at.ensures c.kind.ensures in
    rw (← c.self.view_is, kind, c.in-Pin.is) refl

pub returns-in-Settled : goal.returns-in-Settled
returns-in-Settled g c =
    let kind = found_as g.K.Ord.cmp c.self.inside.places c.args.target c.in-Ok.at c.link_at.result.now c.kind.result c.in-Ok.ensures.found
    c.link_at.ensures c.kind.ensures in
    record {
      answer = rw (← c.self.view_is, kind, c.in-Settled.is) refl;
      after = rw (← c.self.view_is, kind, c.in-Settled.is) (ap (set_of c.self.inside.width) (c.remove.ensures.rest
          ∙ remove-without g.K.Ord.cmp c.self.inside.places c.args.target c.in-Ok.at c.remove.result c.in-Ok.ensures.found));
    }

pub returns-in-Leaving : goal.returns-in-Leaving
returns-in-Leaving g c =
    let kind = found_as g.K.Ord.cmp c.self.inside.places c.args.target c.in-Ok.at c.link_at.result.now c.kind.result c.in-Ok.ensures.found
    c.link_at.ensures c.kind.ensures in
    record {
      answer = rw (← c.self.view_is, kind, c.in-Leaving.is) refl;
      after = rw (← c.self.view_is, kind, c.in-Leaving.is) (ap (set_of c.self.inside.width) (c.remove-in-Leaving.ensures.rest
          ∙ remove-without g.K.Ord.cmp c.self.inside.places c.args.target c.in-Ok.at c.remove-in-Leaving.result
          c.in-Ok.ensures.found));
    }

pub returns-in_default-clause-after : goal.returns-in_default-clause-after
returns-in_default-clause-after g c =
    rw (← c.self.view_is, absent-kind_of g.K.Ord.cmp c.self.inside.places c.args.target c.in_default.field-0 c.in_default.ensures.absent)
    refl

pub returns-in-Pin-clause-after : goal.returns-in-Pin-clause-after
returns-in-Pin-clause-after g c =
    let kind = found_as g.K.Ord.cmp c.self.inside.places c.args.target c.in-Ok.at c.link_at.result.now c.kind.result c.in-Ok.ensures.found
    c.link_at.ensures c.kind.ensures in
    rw (← c.self.view_is, kind, c.in-Pin.is) refl
