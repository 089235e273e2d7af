use Rattle.std.proofs.Common.{rules, ◌≡◌, ◌+◌, arith, true, false, refl, sym, ap, ◌∙◌, Some}
use Rattle.std.proofs.lemmas.Bool.{ltb-true}
use Rattle.tap_link.specs.declared.kind.Kind.TheVariants.{Pin, Settled}
use Rattle.tap_link.specs.LinkSet.{has_room}
use Rattle.tap_link.proofs.KeptLinks.{counted-remove, counted-set, uncounted_pin}
use Rattle.tap_link.proofs.Search.{set_of, absent-kind_of, found_as, found-target, remove-without, set-with_kind, not_pinned}
use Rattle.tap_link.proofs.set.LinkSet.release.Goals as goal

pub returns-in_default-clause-answer : goal.returns-in_default-clause-answer
returns-in_default-clause-answer g c =
    rw (← c.self.view_is, absent-kind_of g.K.Ord.cmp c.self.inside.places c.args.by.from c.in_default.field-0 c.in_default.ensures.absent)
    refl

pub settle-requires : goal.settle-requires
settle-requires g c = (
  search rules,
  (
    c.in-Ok.ensures.found.within,
    (
      λ x got. let same : Some x ≡ Some c.link_at.result.now = sym got ∙ c.link_at.ensures in cc,
      λ x got. found-target g.K.Ord.cmp c.self.inside.places c.args.by.from c.in-Ok.at x c.in-Ok.ensures.found got,
    ),
  ),
)

pub invariant_of-self : goal.invariant_of-self
invariant_of-self g c =
    let room : has_room (set_of c.self.inside.width c.self.inside.places) ≡ true = cc in
    let pin : c.link_at.result.now.kind ≡ Pin = cc in
    let none = uncounted_pin c.link_at.result.now pin in
    rw (c.settle.ensures c.link_at.result.now c.link_at.ensures)
    (counted-set g.K.Ord.cmp (set_of c.self.inside.width c.self.inside.places) c.in-Ok.at c.self.inside.settled
    (c.self.inside.settled + 1) c.link_at.result.now Settled c.self.invariant c.link_at.ensures (λ _. ltb-true _ _ room)
    (omega (arith, none)))

pub spend-requires-clause-by_target : goal.spend-requires-clause-by_target
spend-requires-clause-by_target g c =
    found-target g.K.Ord.cmp c.self.inside.places c.args.by.from c.in-Ok.at c.remove.result c.in-Ok.ensures.found c.remove.ensures.taken

pub invariant_of-self-else-has_room : goal.invariant_of-self-else-has_room
invariant_of-self-else-has_room g c =
    let same : Some c.remove.result ≡ Some c.link_at.result.now = sym c.remove.ensures.taken ∙ c.link_at.ensures in
    let pin : c.remove.result.kind ≡ Pin = cc in
    let none = uncounted_pin c.remove.result pin in
    rw c.remove.ensures.rest
    (counted-remove g.K.Ord.cmp (set_of c.self.inside.width c.self.inside.places) c.in-Ok.at c.self.inside.settled
    c.self.inside.settled c.remove.result c.self.invariant c.remove.ensures.taken (omega (arith, none)))

pub returns-in-Settled : goal.returns-in-Settled
returns-in-Settled g c =
    let kind = found_as g.K.Ord.cmp c.self.inside.places c.args.by.from c.in-Ok.at c.link_at.result.now c.kind.result c.in-Ok.ensures.found
    c.link_at.ensures c.kind.ensures in
    let other = not_pinned c.kind.result c.in-Settled.is in
    record {
      answer = rw (← c.self.view_is, kind, ← other) refl;
      after = rw (← c.self.view_is, kind, ← other) refl;
      nothing = λ _. refl;
    }

pub returns-then-has_room-clause-answer : goal.returns-then-has_room-clause-answer
returns-then-has_room-clause-answer g c =
    let kind = found_as g.K.Ord.cmp c.self.inside.places c.args.by.from c.in-Ok.at c.link_at.result.now c.kind.result c.in-Ok.ensures.found
    c.link_at.ensures c.kind.ensures in
    let room : has_room (set_of c.self.inside.width c.self.inside.places) ≡ true = cc in
    rw (← c.self.view_is, kind, c.in-Pin.is, room) refl

pub returns-then-has_room-clause-after : goal.returns-then-has_room-clause-after
returns-then-has_room-clause-after g c =
    let kind = found_as g.K.Ord.cmp c.self.inside.places c.args.by.from c.in-Ok.at c.link_at.result.now c.kind.result c.in-Ok.ensures.found
    c.link_at.ensures c.kind.ensures in
    let room : has_room (set_of c.self.inside.width c.self.inside.places) ≡ true = cc in
    rw (← c.self.view_is, kind, c.in-Pin.is, room) (ap (set_of c.self.inside.width) (c.settle.ensures c.link_at.result.now c.link_at.ensures
    ∙ set-with_kind g.K.Ord.cmp c.self.inside.places c.args.by.from c.in-Ok.at c.link_at.result.now Settled c.in-Ok.ensures.found
    c.link_at.ensures))

pub returns-else-has_room-clause-answer : goal.returns-else-has_room-clause-answer
returns-else-has_room-clause-answer g c =
    let kind = found_as g.K.Ord.cmp c.self.inside.places c.args.by.from c.in-Ok.at c.link_at.result.now c.kind.result c.in-Ok.ensures.found
    c.link_at.ensures c.kind.ensures in
    let room : has_room (set_of c.self.inside.width c.self.inside.places) ≡ false = cc in
    rw (← c.self.view_is, kind, c.in-Pin.is, room) refl

pub returns-else-has_room-clause-after : goal.returns-else-has_room-clause-after
returns-else-has_room-clause-after g c =
    let kind = found_as g.K.Ord.cmp c.self.inside.places c.args.by.from c.in-Ok.at c.link_at.result.now c.kind.result c.in-Ok.ensures.found
    c.link_at.ensures c.kind.ensures in
    let room : has_room (set_of c.self.inside.width c.self.inside.places) ≡ false = cc in
    rw (← c.self.view_is, kind, c.in-Pin.is, room) (ap (set_of c.self.inside.width) (c.remove.ensures.rest
    ∙ remove-without g.K.Ord.cmp c.self.inside.places c.args.by.from c.in-Ok.at c.remove.result c.in-Ok.ensures.found))

pub returns-in_default-clause-after : goal.returns-in_default-clause-after
returns-in_default-clause-after g c =
    rw (← c.self.view_is, absent-kind_of g.K.Ord.cmp c.self.inside.places c.args.by.from c.in_default.field-0 c.in_default.ensures.absent)
    refl
