use Rattle.std.proofs.Common.{◌≡◌, ◌-◌, ◌+◌, suc, arith, sym, subst, ℕ}
use Rattle.tap_table.proofs.Holders.{IsRest, found_here, later, skipped, within}
use Rattle.tap_table.proofs.ties.holder_on.Goals as goal
use Rattle.tap_table.proofs.ties.holder_on.Goals.{then-holder+else-left-eq0, else-holder}

pub returns-then-left-eq0 : goal.returns-then-left-eq0
returns-then-left-eq0 c =
    let rest : IsRest c.args.holders.now c.args.i c.loop-holder.holder-index 0 = rw c.if-left-eq0.true at c.loop-holder.invariant in
    found_here c.args.holders.now c.args.i c.loop-holder.holder-index c.holder-item.result c.loop-holder-test.true c.holder-item.is
    c.if-holder.true rest

pub loop-holder-preserved : goal.loop-holder-preserved
loop-holder-preserved c =
    let xs = c.args.holders.now in
    let n = c.loop-holder.holder-index in
    let Rest : ℕ → Type 0 = IsRest xs c.args.i (n + 1) in
    elim c.if-holder.branch [
      | then-holder+else-left-eq0 w ↦
          let more : c.loop-holder.left ≡ suc (c.loop-holder.left - 1) = omega (arith, w.if-left-eq0.false) in
          let here : IsRest xs c.args.i n (suc (c.loop-holder.left - 1)) = let P : ℕ → Type 0 = IsRest xs c.args.i n in
          subst P more c.loop-holder.invariant in
          subst Rest (sym w.left-is) (later xs c.args.i n (c.loop-holder.left - 1) c.holder-item.result c.loop-holder-test.true
          c.holder-item.is w.if-holder.true here)
      | else-holder w ↦
          subst Rest (sym w.left-is) (skipped xs c.args.i n c.loop-holder.left c.holder-item.result c.loop-holder-test.true c.holder-item.is
          w.if-holder.false c.loop-holder.invariant)
    ]

pub unreachable-requires : goal.unreachable-requires
unreachable-requires c =
    absurd (within c.args.holders.now c.args.i c.loop-holder.holder-index c.loop-holder.left c.requires c.loop-holder.invariant
    c.loop-holder-test.false)
