use Rattle.std.proofs.Common.{◌≡◌, false, ◌∷◌, filter, ap, subst, sym, ◌∙◌}
use Rattle.std.specs.BTreeMap.Range.{entries_between}
use Rattle.std.specs.Map.Iter.{deref_pair}
use Rattle.std.specs.declared.ops.Bound.TheVariants.{Included, Unbounded}
use Rattle.std.proofs.lemmas.Map.Iter.{rest_more}
use Rattle.tap_pointer.specs.Pair.{pair_cmp}
use Rattle.tap_pointer.specs.Pointers.{is_held, is_of, server_among}
use Rattle.tap_pointer.proofs.Lookups.{AreGathered, gathered-first, gathered-from, gathered-others, is_from, server-from, server-not_held}
use Rattle.tap_pointer.proofs.walk.server_for.Goals as goal

pub loop-pair-init : goal.loop-pair-init
loop-pair-init c =
    let object = c.args.object.now in
    let entries = c.args.pairs.now.entries in
    let range : c.into_iter-pair-iterator.result ≡ filter (is_from object) entries =
    c.into_iter-pair-iterator.ensures.into_iter_gives ∙ c.range-pair-items.ensures.between tt
    ∙ ap (λ first. entries_between pair_cmp (Included first) Unbounded entries) c.first_of-first.ensures in (
      ap (λ es. server_among es object) range ∙ server-from object entries,
      subst (AreGathered object) (sym range) (gathered-from object entries c.range-pair-items.ensures.ordered),
    )

pub returns-then-not-is_of : goal.returns-then-not-is_of
returns-then-not-is_of c =
    let object = c.args.object.now in
    let pair = c.in-Some.pair.now in
    let state = c.in-Some.state.now in
    let rest = c.next.new.self in
    let left : c.loop-pair.pair-iterator ≡ (pair, state) ∷ rest =
    rest_more deref_pair _ _ c.next.result (c.in-Some.pair, c.in-Some.state) c.in-Some.is c.next.ensures.steps in
    let gathered = subst (AreGathered object) left c.loop-pair.invariant.1 in
    let other : is_of object pair ≡ false = sym c.is_of.ensures ∙ c.if-not-is_of.true in
    sym (gathered-first object (pair, state) rest gathered other) ∙ ap (λ es. server_among es object) (sym left)
    ∙ c.loop-pair.invariant.0

pub loop-pair-preserved : goal.loop-pair-preserved
loop-pair-preserved c =
    let object = c.args.object.now in
    let pair = c.in-Some.pair.now in
    let state = c.in-Some.state.now in
    let rest = c.next.new.self in
    let left : c.loop-pair.pair-iterator ≡ (pair, state) ∷ rest =
    rest_more deref_pair _ _ c.next.result (c.in-Some.pair, c.in-Some.state) c.in-Some.is c.next.ensures.steps in
    let gathered = subst (AreGathered object) left c.loop-pair.invariant.1 in
    let apart : is_held state ≡ false = sym c.is_held.ensures ∙ c.if-is_held.false in (
      sym (server-not_held object (pair, state) rest apart) ∙ ap (λ es. server_among es object) (sym left)
          ∙ c.loop-pair.invariant.0,
      gathered-others object (pair, state) rest gathered,
    )
