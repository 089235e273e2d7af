use Rattle.std.proofs.Common.{arith}
use Rattle.tap_name.proofs.Shared.{by_both, by_high, by_low}
use Rattle.tap_name.proofs.name.shared_halves.Goals as goal

pub returns-then-mine-at : goal.returns-then-mine-at
returns-then-mine-at c =
    let is = by_high c.args.mine.now c.args.theirs.now c.loop-at.at (omega arith) (omega arith) c.loop-at.invariant
    (λ same. omega (arith, same, c.if-mine-at.true)) in
    omega (arith, is, c.min.ensures)

pub returns-then-mine-at-2 : goal.returns-then-mine-at-2
returns-then-mine-at-2 c =
    let is = by_low c.args.mine.now c.args.theirs.now c.loop-at.at (omega arith) (omega arith) c.loop-at.invariant
    (omega (arith, c.if-mine-at.false)) (λ same. omega (arith, same, c.if-mine-at-2.true)) in
    omega (arith, is, c.min-then-mine-at-2.ensures)

pub loop-at-preserved : goal.loop-at-preserved
loop-at-preserved c =
    by_both c.args.mine.now c.args.theirs.now c.loop-at.at (omega arith) (omega arith) c.loop-at.invariant
    (omega (arith, c.if-mine-at-2.false))
