use Rattle.std.proofs.Common.{◌≡◌, ◌++◌, [], ◌∷◌, None, arith, sym, ap, ◌∙◌}
use Rattle.std.specs.Map.Iter.{deref_pair}
use Rattle.std.proofs.lemmas.Map.Iter.{rest_more}
use Rattle.tap_register.specs.Stamp.{HasGivenAtMost}
use Rattle.tap_pointer.specs.Reconcile.{layings, layings_to_none, lays_numbered}
use Rattle.tap_pointer.proofs.Layings.{given_on_the_way}
use Rattle.tap_pointer.proofs.walk.lays_to_none.Goals as goal

-- memory was refused on the way
pub returns-in_err-push_layings-clause-given : goal.returns-in_err-push_layings-clause-given
returns-in_err-push_layings-clause-given c =
    let pair = c.in-Some.pair.now in
    let state = c.in-Some.state.now in
    let rest = c.next.new.self in
    let lays = c.loop-pair.lays.items in
    let stamp = c.loop-pair.stamp in
    let left : c.loop-pair.pair-iterator ≡ (pair, state) ∷ rest =
    rest_more deref_pair _ _ c.next.result (c.in-Some.pair, c.in-Some.state) c.in-Some.is c.next.ensures.steps in
    given_on_the_way lays c.args.stamp.now stamp (layings pair state.laid None) (layings_to_none rest)
    (layings_to_none c.args.pairs.now.entries)
    (ap (λ es. lays ++ lays_numbered stamp (layings_to_none es)) (sym left) ∙ c.loop-pair.invariant.0) c.loop-pair.invariant.1
    c.push_layings.new.stamp c.push_layings.ensures.given

pub returns-clause-given : goal.returns-clause-given
returns-clause-given c =
    let stamp = c.loop-pair.stamp in
    let none : HasGivenAtMost 0 stamp stamp = record { forward = omega arith; few = omega arith } in
    given_on_the_way c.loop-pair.lays.items c.args.stamp.now stamp [] (layings_to_none c.loop-pair.pair-iterator)
    (layings_to_none c.args.pairs.now.entries) c.loop-pair.invariant.0 c.loop-pair.invariant.1 stamp none
