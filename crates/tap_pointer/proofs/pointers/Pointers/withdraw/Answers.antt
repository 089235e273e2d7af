use Rattle.std.proofs.Common.{◌≡◌, false, Some, ap, subst, sym, ◌∙◌}
use Rattle.std.specs.BTreeMap.{insert_entry, is_at}
use Rattle.std.specs.Map.{lookup}
use Rattle.tap_pointer.specs.declared.pair.Pair.{Pair}
use Rattle.tap_pointer.specs.Pair.{pair_cmp}
use Rattle.tap_pointer.specs.Pointers.{PointersValue, own_pair, state_among, with_published, withdrawn}
use Rattle.tap_pointer.proofs.Known.{count_from, count_to, known-among, known-withdrawn, put_keeps}
use Rattle.tap_pointer.proofs.Laws.{withdrawn_put}
use Rattle.tap_pointer.proofs.Lowest.{from-among, from-put, from-withdrawn}
use Rattle.tap_pointer.proofs.pointers.Pointers.withdraw.Goals as goal

pub count_after-self-inside-requires-clause-from : goal.count_after-self-inside-requires-clause-from
count_after-self-inside-requires-clause-from c =
    let pairs = c.self.inside.pairs.entries in
    let own = c.own-own.result in
    count_from pairs own c.withdraw.ensures.ordered (with_published (state_among pairs own) false) c.in-Some.change
    c.in-Some.ensures.change c.withdraw.new.pairs.entries c.in-Some.ensures.after c.self.inside.held_or_laid c.self.invariant.1

pub count_after-self-inside-requires-clause-to : goal.count_after-self-inside-requires-clause-to
count_after-self-inside-requires-clause-to c =
    let pairs = c.self.inside.pairs.entries in
    let own = c.own-own.result in
    count_to pairs own c.withdraw.ensures.ordered (with_published (state_among pairs own) false) c.in-Some.change
    c.in-Some.ensures.change c.withdraw.new.pairs.entries c.in-Some.ensures.after c.self.inside.held_or_laid c.self.invariant.1
    c.len.result c.len.ensures.len

pub invariant_of-self-2 : goal.invariant_of-self-2
invariant_of-self-2 c =
    let pairs = c.self.inside.pairs.entries in
    let owner = c.self.inside.owner in
    let own = c.own-own.result in
    let known = known-withdrawn owner own (state_among pairs own) (known-among owner own pairs c.self.invariant.0) in
    let kept =
    put_keeps pairs own c.withdraw.ensures.ordered (with_published (state_among pairs own) false) c.in-Some.change
    c.in-Some.ensures.change c.withdraw.new.pairs.entries c.in-Some.ensures.after c.self.inside.held_or_laid c.self.invariant.1
    owner c.count_after-self-inside.result c.count_after-self-inside.ensures c.self.invariant.0 known in
    let lowest = c.self.inside.lowest in (
      kept.0,
      kept.1,
      from-put lowest own pairs c.withdraw.new.pairs.entries (with_published (state_among pairs own) false)
          c.in-Some.ensures.after c.self.invariant.2
          (from-withdrawn lowest own (state_among pairs own) (from-among lowest own pairs c.self.invariant.2)),
    )

pub returns-clause-after : goal.returns-clause-after
returns-clause-after c =
    let p : PointersValue = record { owner = c.self.inside.owner; pairs = c.self.inside.pairs.entries } in
    let own : c.own-own.result ≡ own_pair p c.args.object =
    c.own-own.ensures ∙ sym (ap (λ v. own_pair v c.args.object) c.self.view_is) in
    let put = λ (own : Pair). insert_entry pair_cmp p.pairs own (with_published (state_among p.pairs own) false) in
    let present = subst (λ own. lookup (is_at (pair_cmp own)) p.pairs ≡ Some (state_among p.pairs own)) own c.in-Some.ensures.present in
    ap (λ pairs. record { owner = c.self.inside.owner; pairs = pairs }) (c.in-Some.ensures.after ∙ ap put own)
    ∙ withdrawn_put p c.args.object c.withdraw.ensures.ordered present
    ∙ ap (λ v. withdrawn v c.args.object) c.self.view_is
