use Rattle.std.proofs.Common.{arith}
use Rattle.tap_outstanding.proofs.Reserving.{asked-same, asked-room, one-more-reserved}
use Rattle.tap_outstanding.proofs.levels.reserve.Goals as goal

pub returns-in_err-reserve-clause-same : goal.returns-in_err-reserve-clause-same
returns-in_err-reserve-clause-same c =
    asked-same c.args.more c.args.sums.now c.loop-counts.sums c.loop-counts.counts-index c.counts-item.result c.reserve.new.self
    c.loop-counts.invariant c.reserve.ensures.items

pub returns-in_err-reserve-clause-room : goal.returns-in_err-reserve-clause-room
returns-in_err-reserve-clause-room c =
    asked-room c.args.more c.args.sums.now c.loop-counts.sums c.loop-counts.counts-index c.counts-item.result c.reserve.new.self
    c.loop-counts.invariant (omega arith) c.reserve.ensures.len c.reserve.ensures.capacity

pub loop-counts-preserved : goal.loop-counts-preserved
loop-counts-preserved c =
    one-more-reserved c.args.more c.args.sums.now c.loop-counts.sums c.loop-counts.counts-index c.counts-item.result
    c.reserve.new.self c.loop-counts.invariant (omega arith) c.reserve.ensures.items c.reserve.ensures.len c.reserve.ensures.capacity
    c.in_ok-reserve.ensures.ok
