use Rattle.std.proofs.Common.{ℕ, ◌+◌, ◌<◌, List, length, set, subst, sym, ap, arith}
use Rattle.std.specs.List.{sum}
use Rattle.tap_outstanding.proofs.Towers.{level-set_next}
use Rattle.tap_outstanding.proofs.GrowingMarks.{IsWhole, one-more-grown, mark-added, whole-sum, grown-fits, grown-tower}
use Rattle.tap_outstanding.proofs.levels.raise.Goals as goal

pub returns-then-end-ne0-clause-tower : goal.returns-then-end-ne0-clause-tower
returns-then-end-ne0-clause-tower c =
    let first = mark-added c.args.marks.now.items c.push_reserved.new.self.items c.args.sums.now c.requires.tower c.push_reserved.ensures.items in
    let long = c.args.marks.now.ok.0 in
    let long' = c.push_reserved.new.self.ok.0 in
    grown-tower c.args.marks.now.items c.push_reserved.new.self.items c.args.sums.now c.requires.tower c.args.sums.now 0 first
    c.push_reserved.ensures.items (omega arith) (λ lt whole. c.if-end-ne0.true (omega arith))

pub marks_between-sum-requires-clause-fits : goal.marks_between-sum-requires-clause-fits
marks_between-sum-requires-clause-fits c =
    let first = mark-added c.args.marks.now.items c.push_reserved.new.self.items c.args.sums.now c.requires.tower c.push_reserved.ensures.items in
    let long = c.args.marks.now.ok.0 in
    rw c.deref.ensures.value
    (grown-fits c.args.marks.now.items c.push_reserved.new.self.items c.args.sums.now c.requires.tower c.args.sums.now 0 first
    c.push_reserved.ensures.items (omega arith))

pub loop-counts-init : goal.loop-counts-init
loop-counts-init c =
    let long = c.push_reserved.new.self.ok.0 in (
      mark-added c.args.marks.now.items c.push_reserved.new.self.items c.args.sums.now c.requires.tower c.push_reserved.ensures.items,
      whole-sum c.push_reserved.new.self.items c.deref.result.now c.len-end.result c.marks_between-sum.result c.deref.ensures.value
          (omega arith) c.if-end-ne0.false c.marks_between-sum.ensures,
    )

pub returns-then-end-ne0-2-clause-tower : goal.returns-then-end-ne0-2-clause-tower
returns-then-end-ne0-2-clause-tower c =
    let marks : List ℕ = c.push_reserved.new.self.items in
    let now = set c.loop-counts.sums c.loop-counts.counts-index c.push_reserved-in-loop-counts.new.self in
    let long = c.args.marks.now.ok.0 in
    let long' = c.push_reserved-in-loop-counts.new.self.ok.0 in
    let next = level-set_next marks c.loop-counts.sums c.loop-counts.counts-index c.push_reserved-in-loop-counts.new.self (omega arith) in
    let grown = one-more-grown c.args.marks.now.items marks c.args.sums.now c.requires.tower c.loop-counts.sums c.loop-counts.counts-index
    c.loop-counts.sum c.counts-item.result c.push_reserved-in-loop-counts.new.self c.loop-counts.invariant.0 (omega arith)
    c.loop-counts.invariant.1 c.push_reserved-in-loop-counts.ensures.items c.push_reserved-in-loop-counts.ensures.len
    c.push_reserved-in-loop-counts.ensures.capacity in
    grown-tower c.args.marks.now.items marks c.args.sums.now c.requires.tower now (c.loop-counts.counts-index + 1) grown
    c.push_reserved.ensures.items (omega arith)
    (λ lt whole. c.if-end-ne0-2.true (omega (arith, ap (λ (xs : List ℕ). length xs) next, whole)))

pub returns-then-end-ne0-2-clause-rooms : goal.returns-then-end-ne0-2-clause-rooms
returns-then-end-ne0-2-clause-rooms c =
    let marks : List ℕ = c.push_reserved.new.self.items in
    let grown = one-more-grown c.args.marks.now.items marks c.args.sums.now c.requires.tower c.loop-counts.sums c.loop-counts.counts-index
    c.loop-counts.sum c.counts-item.result c.push_reserved-in-loop-counts.new.self c.loop-counts.invariant.0 (omega arith)
    c.loop-counts.invariant.1 c.push_reserved-in-loop-counts.ensures.items c.push_reserved-in-loop-counts.ensures.len
    c.push_reserved-in-loop-counts.ensures.capacity in
    grown.room

pub sum_between-sum-requires-clause-fits : goal.sum_between-sum-requires-clause-fits
sum_between-sum-requires-clause-fits c =
    let marks : List ℕ = c.push_reserved.new.self.items in
    let now = set c.loop-counts.sums c.loop-counts.counts-index c.push_reserved-in-loop-counts.new.self in
    let long = c.args.marks.now.ok.0 in
    let next = level-set_next marks c.loop-counts.sums c.loop-counts.counts-index c.push_reserved-in-loop-counts.new.self (omega arith) in
    let grown = one-more-grown c.args.marks.now.items marks c.args.sums.now c.requires.tower c.loop-counts.sums c.loop-counts.counts-index
    c.loop-counts.sum c.counts-item.result c.push_reserved-in-loop-counts.new.self c.loop-counts.invariant.0 (omega arith)
    c.loop-counts.invariant.1 c.push_reserved-in-loop-counts.ensures.items c.push_reserved-in-loop-counts.ensures.len
    c.push_reserved-in-loop-counts.ensures.capacity in
    let fits = grown-fits c.args.marks.now.items marks c.args.sums.now c.requires.tower now (c.loop-counts.counts-index + 1) grown
    c.push_reserved.ensures.items (omega arith) in
    rw c.deref-in-loop-counts.ensures.value (subst (λ (xs : List ℕ). sum xs < 4294967296) next fits)

pub loop-counts-preserved : goal.loop-counts-preserved
loop-counts-preserved c =
    let marks : List ℕ = c.push_reserved.new.self.items in
    let long = c.push_reserved-in-loop-counts.new.self.ok.0 in
    let next = level-set_next marks c.loop-counts.sums c.loop-counts.counts-index c.push_reserved-in-loop-counts.new.self (omega arith) in (
      one-more-grown c.args.marks.now.items marks c.args.sums.now c.requires.tower c.loop-counts.sums c.loop-counts.counts-index
          c.loop-counts.sum c.counts-item.result c.push_reserved-in-loop-counts.new.self c.loop-counts.invariant.0 (omega arith)
          c.loop-counts.invariant.1 c.push_reserved-in-loop-counts.ensures.items c.push_reserved-in-loop-counts.ensures.len
          c.push_reserved-in-loop-counts.ensures.capacity,
      subst (λ (xs : List ℕ). IsWhole xs c.sum_between-sum.result) (sym next)
          (whole-sum c.push_reserved-in-loop-counts.new.self.items c.deref-in-loop-counts.result.now c.len-end-in-loop-counts.result
          c.sum_between-sum.result c.deref-in-loop-counts.ensures.value (omega arith) c.if-end-ne0-2.false c.sum_between-sum.ensures),
    )

pub returns-clause-tower : goal.returns-clause-tower
returns-clause-tower c =
    let height = c.requires.tower.height in
    let size = c.loop-counts.invariant.0.size in
    let long = c.args.marks.now.ok.0 in
    grown-tower c.args.marks.now.items c.push_reserved.new.self.items c.args.sums.now c.requires.tower c.loop-counts.sums
    c.loop-counts.counts-index c.loop-counts.invariant.0 c.push_reserved.ensures.items (omega arith) (λ lt. absurd (omega arith))
