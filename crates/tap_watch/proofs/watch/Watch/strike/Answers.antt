use Rattle.std.proofs.Common.{subst, sym, refl}
use Rattle.std.proofs.lemmas.List.Quantifiers.{all_pairs_remove}
use Rattle.tap_name.specs.Slot.{Precedes}
use Rattle.tap_watch.specs.Watch.{SlotsAscend}
use Rattle.tap_watch.proofs.Order.{without_at, without_absent, is_there, is_within}
use Rattle.tap_watch.proofs.watch.Watch.strike.Goals as goal

pub invariant_of-self : goal.invariant_of-self
invariant_of-self c =
    let ascending = subst SlotsAscend c.self.view_is c.self.invariant in
    let within = is_within c.args.self.now c.args.slot c.in-Some.place c.in-Some.ensures.some in
    rw (c.remove.ensures.items, c.self.view_is) (all_pairs_remove Precedes c.args.self.now c.in-Some.place within ascending)

pub returns-in-Some-clause-was : goal.returns-in-Some-clause-was
returns-in-Some-clause-was c = (λ _. is_there c.args.self.now c.args.slot c.in-Some.place c.in-Some.ensures.some, λ _. refl)

pub returns-in-Some-clause-left : goal.returns-in-Some-clause-left
returns-in-Some-clause-left c =
    let ascending = subst SlotsAscend c.self.view_is c.self.invariant in
    rw (c.remove.ensures.items, c.self.view_is) (sym (without_at c.args.self.now c.args.slot c.in-Some.place ascending
    c.in-Some.ensures.some))

pub returns-in-None-clause-left : goal.returns-in-None-clause-left
returns-in-None-clause-left c = sym (without_absent c.args.self.now c.args.slot (c.in-None.ensures.none refl))
