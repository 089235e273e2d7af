use Rattle.std.proofs.Common.{rules, ◌≡◌, ℕ, min, arith}
use Rattle.tap_pointer.specs.Pointers.{pair_of, pointer_at, state_among, with_lay}
use Rattle.tap_pointer.proofs.Known.{count_from, count_to, known-among, known-with_lay, put_keeps}
use Rattle.tap_pointer.proofs.Lowest.{from-among, from-lower, from-put, from-with_lay}
use Rattle.tap_pointer.proofs.pointers.Pointers.apply_lay.Goals as goal

pub count_after-self-inside-requires-clause-from : goal.count_after-self-inside-requires-clause-from
count_after-self-inside-requires-clause-from c =
    let pairs = c.self.inside.pairs.entries in
    let pair = pair_of c.args.object c.args.server in
    let pointer = pointer_at c.args.level c.args.on in
    count_from pairs pair c.take.ensures.ordered (with_lay (state_among pairs pair) c.args.from c.args.version pointer)
    c.in_ok-newer.change c.in_ok-newer.ensures.change c.take.new.pairs.entries c.in_ok-newer.ensures.after
    c.self.inside.held_or_laid c.self.invariant.1

pub count_after-self-inside-requires-clause-to : goal.count_after-self-inside-requires-clause-to
count_after-self-inside-requires-clause-to c =
    let pairs = c.self.inside.pairs.entries in
    let pair = pair_of c.args.object c.args.server in
    let pointer = pointer_at c.args.level c.args.on in
    count_to pairs pair c.take.ensures.ordered (with_lay (state_among pairs pair) c.args.from c.args.version pointer)
    c.in_ok-newer.change c.in_ok-newer.ensures.change c.take.new.pairs.entries c.in_ok-newer.ensures.after
    c.self.inside.held_or_laid c.self.invariant.1 c.len.result c.len.ensures.len

pub invariant_of-self-2 : goal.invariant_of-self-2
invariant_of-self-2 c =
    let pairs = c.self.inside.pairs.entries in
    let owner = c.self.inside.owner in
    let pair = pair_of c.args.object c.args.server in
    let pointer = pointer_at c.args.level c.args.on in
    let known =
    known-with_lay owner pair (state_among pairs pair) (known-among owner pair pairs c.self.invariant.0)
    c.args.from c.args.version pointer c.requires.from c.requires.to in
    let kept =
    put_keeps pairs pair c.take.ensures.ordered (with_lay (state_among pairs pair) c.args.from c.args.version pointer)
    c.in_ok-newer.change c.in_ok-newer.ensures.change c.take.new.pairs.entries c.in_ok-newer.ensures.after
    c.self.inside.held_or_laid c.self.invariant.1
    owner c.count_after-self-inside.result c.count_after-self-inside.ensures c.self.invariant.0 known in
    let lowest : ℕ = c.min-self-inside.result in
    let is : lowest ≡ min c.self.inside.lowest c.args.level = search rules in
    let from = from-lower c.self.inside.lowest lowest (omega (arith, is)) pairs c.self.invariant.2 in (
      kept.0,
      kept.1,
      from-put lowest pair pairs c.take.new.pairs.entries
          (with_lay (state_among pairs pair) c.args.from c.args.version pointer) c.in_ok-newer.ensures.after from
          (from-with_lay lowest pair (state_among pairs pair) (from-among lowest pair pairs from) c.args.from c.args.version pointer
          (omega (arith, is))),
    )
