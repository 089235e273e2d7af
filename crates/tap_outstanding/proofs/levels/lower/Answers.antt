use Rattle.std.proofs.Common.{ℕ, ◌≤◌, List, length, get_or, set, Vec, Global, refl, sym, subst, arith}
use Rattle.std.proofs.lemmas.List.{set-get_or}
use Rattle.tap_outstanding.specs.Levels.{HaveRoom, IsTower}
use Rattle.tap_outstanding.proofs.Lowering.{one-more-lowered, lowered-tower, lower-some, lower-past}
use Rattle.tap_outstanding.proofs.levels.lower.Goals as goal

pub returns-then-at-len-clause-tower : goal.returns-then-at-len-clause-tower
returns-then-at-len-clause-tower c =
    let long = (get_or c.loop-counts.sums c.loop-counts.counts-index c.counts-item.result).ok.0 in
    let unchanged = set-get_or c.loop-counts.sums c.loop-counts.counts-index c.counts-item.result in
    let item : length (get_or c.loop-counts.sums c.loop-counts.counts-index c.counts-item.result).items ≤ c.loop-counts.at = omega arith in
    subst (λ (sums : List (Vec ℕ Global)). IsTower (set c.args.marks.now.items c.args.number 0) sums) (sym unchanged)
    (lowered-tower c.args.marks.now.items c.args.sums.now c.loop-counts.sums c.args.number c.loop-counts.counts-index c.loop-counts.at
    c.requires.tower c.requires.mark c.loop-counts.invariant (set c.args.marks.now.items c.args.number 0) refl
    (λ lt. lower-past c.args.marks.now.items c.args.sums.now c.loop-counts.sums c.args.number c.loop-counts.counts-index c.loop-counts.at
    c.requires.tower c.loop-counts.invariant c.counts-item.result (omega arith) item))

pub returns-then-at-len-clause-rooms : goal.returns-then-at-len-clause-rooms
returns-then-at-len-clause-rooms c =
    let unchanged = set-get_or c.loop-counts.sums c.loop-counts.counts-index c.counts-item.result in
    λ room have. subst (λ (sums : List (Vec ℕ Global)). HaveRoom sums room) (sym unchanged) (c.loop-counts.invariant.room room have)

pub take_one-requires-clause-some : goal.take_one-requires-clause-some
take_one-requires-clause-some c =
    let long = (get_or c.loop-counts.sums c.loop-counts.counts-index c.counts-item.result).ok.0 in
    lower-some c.args.marks.now.items c.args.sums.now c.loop-counts.sums c.args.number c.loop-counts.counts-index c.loop-counts.at
    c.requires.tower c.loop-counts.invariant c.counts-item.result (omega arith) c.requires.mark (omega arith)

pub loop-counts-preserved : goal.loop-counts-preserved
loop-counts-preserved c =
    one-more-lowered c.args.sums.now c.args.number c.loop-counts.sums c.loop-counts.counts-index c.loop-counts.at c.counts-item.result
    c.take_one.new.counts c.loop-counts.invariant (omega arith) c.take_one.ensures.items c.take_one.ensures.len c.take_one.ensures.capacity

pub returns-clause-tower : goal.returns-clause-tower
returns-clause-tower c =
    let height = c.requires.tower.height in
    let size = c.loop-counts.invariant.size in
    lowered-tower c.args.marks.now.items c.args.sums.now c.loop-counts.sums c.args.number c.loop-counts.counts-index c.loop-counts.at
    c.requires.tower c.requires.mark c.loop-counts.invariant (set c.args.marks.now.items c.args.number 0) refl (λ lt. absurd (omega arith))
