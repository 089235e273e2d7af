use Rattle.std.proofs.Common.{◌≡◌, [], map, true, false, length, ap, eqb-true, sym, subst, ◌∙◌}
use Rattle.std.specs.List.{All}
use Rattle.std.specs.Vec.{vec_len}
use Rattle.std.proofs.lemmas.List.{nil_from_length}
use Rattle.tap_register.specs.Stamp.{HasGivenAtMost}
use Rattle.tap_pointer.specs.Pointers.{IsHeldFrom, IsPairState, PointersValue, with_laid}
use Rattle.tap_pointer.specs.Reconcile.{AreLaid, laid_by_all, layings_to_wanted, reconcile_lays, wanted_hop, with_wanted}
use Rattle.tap_pointer.proofs.Known.{known-laid, known-map}
use Rattle.tap_pointer.proofs.Layings.{all_laid, length-lays_numbered}
use Rattle.tap_pointer.proofs.Lowest.{from-laid, from-map}
use Rattle.tap_pointer.proofs.Telling.{all_laid_as_told}
use Rattle.tap_pointer.proofs.pointers.Pointers.lays_as_wanted.Goals as goal
use Rattle.tap_pointer.proofs.pointers.Pointers.lays_as_wanted.Goals.{After-is_empty, After-lay_as_told-self-inside, After-lays_to_wanted}

-- there are no Lays: all pairs are laid as wanted
same : (c : After-is_empty) → c.is_empty.result ≡ true → map (with_wanted c.args.table.now) c.self.inside.pairs.entries ≡ c.self.inside.pairs.entries
same c is =
    let t = c.args.table.now in
    let pairs = c.self.inside.pairs.entries in
    let lays = c.in_ok-lays.lays in
    let len : vec_len lays ≡ 0 = eqb-true (vec_len lays) 0 (sym c.is_empty.ensures ∙ is) in
    let none : lays.items ≡ [] = nil_from_length lays.items (sym lays.ok.0 ∙ len) in
    sym (all_laid_as_told t c.args.stamp.now pairs c.len-ordered.ensures.ordered)
    ∙ ap (laid_by_all pairs) (sym c.in_ok-lays.ensures.value ∙ none)

pub returns-then-is_empty-clause-after : goal.returns-then-is_empty-clause-after
returns-then-is_empty-clause-after c =
    let all = same (goal.at.returns-then-is_empty-clause-after c).After-is_empty c.if-is_empty.true in
    rw (← c.self.view_is) (ap (λ pairs. record { owner = c.self.inside.owner; pairs = pairs }) (sym all))

pub returns-then-is_empty-clause-laid : goal.returns-then-is_empty-clause-laid
returns-then-is_empty-clause-laid c =
    let t = c.args.table.now in
    let all = same (goal.at.returns-then-is_empty-clause-laid c).After-is_empty c.if-is_empty.true in
    subst (AreLaid t) c.self.view_is
    (subst (All (λ e. e.1.laid ≡ wanted_hop t e)) all (all_laid t c.self.inside.pairs.entries))

-- laid as the Lays tell, the pairs are laid as wanted
told : (c : After-lay_as_told-self-inside) → c.lay_as_told-self-inside.new.pairs.entries ≡ map (with_wanted c.args.table.now) c.self.inside.pairs.entries
told c =
    let pairs = c.self.inside.pairs.entries in
    c.lay_as_told-self-inside.ensures.after ∙ ap (laid_by_all pairs) (c.deref.ensures.value ∙ c.in_ok-lays.ensures.value)
    ∙ all_laid_as_told c.args.table.now c.args.stamp.now pairs c.len-ordered.ensures.ordered

pub invariant_of-self : goal.invariant_of-self
invariant_of-self c =
    let owner = c.self.inside.owner in
    let lowest = c.self.inside.lowest in
    let t = c.args.table.now in
    let all = told (goal.at.invariant_of-self c).After-lay_as_told-self-inside in (
      subst (All (IsPairState owner)) (sym all)
          (known-map owner (λ e. with_laid e.1 (wanted_hop t e)) (λ e known. known-laid owner e.0 e.1 known (wanted_hop t e))
          c.self.inside.pairs.entries c.self.invariant.0),
      c.lay_as_told-self-inside.ensures.count,
      subst (All (IsHeldFrom lowest)) (sym all)
          (from-map lowest (λ e. with_laid e.1 (wanted_hop t e)) (λ e from. from-laid lowest e.0 e.1 from (wanted_hop t e))
          c.self.inside.pairs.entries c.self.invariant.2),
    )

pub returns-clause-after : goal.returns-clause-after
returns-clause-after c =
    let all = told (goal.at.returns-clause-after c).After-lay_as_told-self-inside in
    rw (← c.self.view_is) (ap (λ pairs. record { owner = c.self.inside.owner; pairs = pairs }) all)

pub returns-clause-laid : goal.returns-clause-laid
returns-clause-laid c =
    let t = c.args.table.now in
    let all = told (goal.at.returns-clause-laid c).After-lay_as_told-self-inside in
    subst (All (λ e. e.1.laid ≡ wanted_hop t e)) (sym all) (all_laid t c.self.inside.pairs.entries)

given : (c : After-lays_to_wanted) → HasGivenAtMost (length (reconcile_lays c.args.table.now c.args.stamp.now c.args.self.now))
    c.args.stamp.now c.lays_to_wanted.new.stamp
given c =
    let pairs = c.self.inside.pairs.entries in
    let due = length-lays_numbered c.args.stamp.now (layings_to_wanted c.args.table.now pairs) in
    rw (← c.self.view_is)
    (subst (λ n. HasGivenAtMost n c.args.stamp.now c.lays_to_wanted.new.stamp) (sym due) c.lays_to_wanted.ensures.given)

pub returns-in_err-lays-clause-given : goal.returns-in_err-lays-clause-given
returns-in_err-lays-clause-given c = given (goal.at.returns-in_err-lays-clause-given c).After-lays_to_wanted

pub returns-then-is_empty-clause-given : goal.returns-then-is_empty-clause-given
returns-then-is_empty-clause-given c = given (goal.at.returns-then-is_empty-clause-given c).After-lays_to_wanted

pub returns-clause-given : goal.returns-clause-given
returns-clause-given c = given (goal.at.returns-clause-given c).After-lays_to_wanted

-- memory is refused only if a Lay is due
pub returns-in_err-lays-clause-none_due : goal.returns-in_err-lays-clause-none_due
returns-in_err-lays-clause-none_due c none =
    let layings = layings_to_wanted c.args.table.now c.self.inside.pairs.entries in
    let of = λ (p : PointersValue). length (reconcile_lays c.args.table.now c.args.stamp.now p) in
    let few = sym (length-lays_numbered c.args.stamp.now layings) ∙ ap of c.self.view_is ∙ ap length none in
    let wrong : false ≡ true = c.in_err-lays.ensures.none (nil_from_length layings few) in
    absurd (cc)
