use Rattle.std.proofs.Common.{arith, ap, length}
use Rattle.tap_outstanding.proofs.Searching.{spot-first, spot-within}
use Rattle.tap_outstanding.proofs.levels.find.Goals as goal

pub loop-height-init : goal.loop-height-init
loop-height-init c =
    spot-first c.args.marks.now c.args.sums.now c.requires.tower c.args.low c.args.place c.start_of-start.result.height c.start_of-start.result.at
    c.requires.inside c.requires.low c.start_of-start.ensures.height c.start_of-start.ensures.at

pub pass-spot-requires : goal.pass-spot-requires
pass-spot-requires c = record {
  from =
      let there = ap (λ v. length v.items) c.index-sums-height.is in
      omega (
        arith,
        spot-within c.args.marks.now c.args.sums.now c.requires.tower c.args.place c.loop-height.height c.loop-height.spot.at
            c.loop-height.spot.left c.index-sums-height.result (omega (arith, c.loop-height.auto.height, c.start_of-start.ensures.height))
            (omega (arith, c.loop-height-test.true)) c.loop-height.invariant,
        there,
        c.deref.ensures.len,
      );
}
