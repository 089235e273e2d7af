use Rattle.std.proofs.Common.{◌≡◌, true, arith, refl, sym, ap, ◌∙◌}
use Rattle.tap_pointer.specs.Pointers.{state_among, with_published}
use Rattle.tap_pointer.proofs.Known.{count_from, count_to, known-among, known-published, put_keeps}
use Rattle.tap_pointer.proofs.Lowest.{from-among, from-lower, from-published, from-put}
use Rattle.tap_pointer.proofs.pointers.Pointers.publish.Goals as goal

pub count_after-self-inside-requires-clause-from : goal.count_after-self-inside-requires-clause-from
count_after-self-inside-requires-clause-from c =
    let pairs = c.self.inside.pairs.entries in
    let own = c.own-own.result in
    count_from pairs own c.publish.ensures.ordered (with_published (state_among pairs own) true) c.in_ok-first.change
    c.in_ok-first.ensures.change c.publish.new.pairs.entries c.in_ok-first.ensures.after c.self.inside.held_or_laid c.self.invariant.1

pub count_after-self-inside-requires-clause-to : goal.count_after-self-inside-requires-clause-to
count_after-self-inside-requires-clause-to c =
    let pairs = c.self.inside.pairs.entries in
    let own = c.own-own.result in
    count_to pairs own c.publish.ensures.ordered (with_published (state_among pairs own) true) c.in_ok-first.change
    c.in_ok-first.ensures.change c.publish.new.pairs.entries c.in_ok-first.ensures.after c.self.inside.held_or_laid c.self.invariant.1
    c.len.result c.len.ensures.len

pub invariant_of-self-2 : goal.invariant_of-self-2
invariant_of-self-2 c =
    let pairs = c.self.inside.pairs.entries in
    let owner = c.self.inside.owner in
    let own = c.own-own.result in
    let served : own.server ≡ owner = ap (λ p. p.server) c.own-own.ensures ∙ sym (ap (λ v. v.owner) c.self.view_is) in
    let known = known-published owner own (state_among pairs own) (known-among owner own pairs c.self.invariant.0) served in
    let kept =
    put_keeps pairs own c.publish.ensures.ordered (with_published (state_among pairs own) true) c.in_ok-first.change
    c.in_ok-first.ensures.change c.publish.new.pairs.entries c.in_ok-first.ensures.after c.self.inside.held_or_laid c.self.invariant.1
    owner c.count_after-self-inside.result c.count_after-self-inside.ensures c.self.invariant.0 known in
    let from = from-lower c.self.inside.lowest 0 (omega arith) pairs c.self.invariant.2 in (
      kept.0,
      kept.1,
      from-put 0 own pairs c.publish.new.pairs.entries (with_published (state_among pairs own) true)
          c.in_ok-first.ensures.after from (from-published 0 own (state_among pairs own) (from-among 0 own pairs from) refl),
    )
