use Rattle.std.proofs.Common.{◌≡◌, true, false, Some, None, refl, sym, arith, ◌∙◌}
use Rattle.std.proofs.lemmas.List.{at_drop_all}
use Rattle.tap_link.specs.LinkSet.{is_settled, least_settled}
use Rattle.tap_link.proofs.Least.{least_settled-drop_other, least_settled-drop_settled, least_settled_is, counted_some, counted_none}
use Rattle.tap_link.proofs.set.LinkSet.primary.Goals as goal

pub returns-then-is_settled-clause-value : goal.returns-then-is_settled-clause-value
returns-then-is_settled-clause-value g c =
    let settled : is_settled (Some c.link_at-link.result.now.kind) ≡ true = cc in
    let found = least_settled-drop_settled c.self.inside.places c.loop-at.at c.link_at-link.result.now c.link_at-link.ensures settled in
    rw (← c.self.view_is, c.target.ensures) (sym (c.loop-at.invariant ∙ found))

pub returns-then-is_settled-clause-least : goal.returns-then-is_settled-clause-least
returns-then-is_settled-clause-least g c =
    let settled : is_settled (Some c.link_at-link.result.now.kind) ≡ true = cc in
    let found = least_settled-drop_settled c.self.inside.places c.loop-at.at c.link_at-link.result.now c.link_at-link.ensures settled in
    rw (← c.self.view_is, c.target.ensures)
    (least_settled_is g.K.Ord.cmp g.met.K.Ord.total c.self.inside.places _ c.self.invariant.valid.ascending (c.loop-at.invariant ∙ found))

pub returns-then-is_settled-clause-none : goal.returns-then-is_settled-clause-none
returns-then-is_settled-clause-none g c =
    let settled : is_settled (Some c.link_at-link.result.now.kind) ≡ true = cc in
    let found = least_settled-drop_settled c.self.inside.places c.loop-at.at c.link_at-link.result.now c.link_at-link.ensures settled in
    let some = counted_some c.self.inside.places _ (c.loop-at.invariant ∙ found) in
    rw (← c.self.view_is) ((λ none. cc), (λ zero. absurd (omega (arith, some, zero))))

pub loop-at-preserved : goal.loop-at-preserved
loop-at-preserved g c =
    let other : is_settled (Some c.link_at-link.result.now.kind) ≡ false = cc in
    c.loop-at.invariant ∙ least_settled-drop_other c.self.inside.places c.loop-at.at c.link_at-link.result.now c.link_at-link.ensures other

pub returns-clause-none : goal.returns-clause-none
returns-clause-none g c =
    let none : least_settled c.self.inside.places ≡ None =
    c.loop-at.invariant ∙ at_drop_all least_settled c.self.inside.places c.loop-at.at (omega arith) in
    rw (← c.self.view_is) ((λ _. counted_none c.self.inside.places none), (λ _. refl))
