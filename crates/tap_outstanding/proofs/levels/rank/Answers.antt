use Rattle.std.proofs.Common.{◌≡◌, ◌<◌, ◌+◌, get_or, arith}
use Rattle.tap_outstanding.proofs.Towers.{few}
use Rattle.tap_outstanding.proofs.Searching.{rank-fits, rank-add, rank-next}
use Rattle.tap_outstanding.proofs.levels.rank.Goals as goal

pub marks_between-place-requires-clause-fits : goal.marks_between-place-requires-clause-fits
marks_between-place-requires-clause-fits c = omega (arith, few c.args.marks.now c.args.sums.now c.requires.tower 0 (omega arith))

pub sum_between-place-requires-clause-fits : goal.sum_between-place-requires-clause-fits
sum_between-place-requires-clause-fits c =
    let height = c.requires.tower.height in
    let items : c.deref.result.now ≡ (get_or c.args.sums.now c.loop-counts.counts-index c.counts-item.result).items = cc in
    rw items
    (rank-fits c.args.marks.now c.args.sums.now c.requires.tower c.loop-counts.counts-index c.counts-item.result (omega arith))

pub overflow_add-place : goal.overflow_add-place
overflow_add-place c =
    let height = c.requires.tower.height in
    let items : c.deref.result.now ≡ (get_or c.args.sums.now c.loop-counts.counts-index c.counts-item.result).items = cc in
    let small : c.loop-counts.place + c.sum_between-place.result < 4294967296 =
    rank-add c.args.marks.now c.args.sums.now c.requires.tower c.args.number c.loop-counts.counts-index c.loop-counts.at c.loop-counts.place
    c.sum_between-place.result c.counts-item.result (omega arith) c.loop-counts.invariant (rw (← items) c.sum_between-place.ensures) in
    omega arith

pub loop-counts-preserved : goal.loop-counts-preserved
loop-counts-preserved c =
    let height = c.requires.tower.height in
    let items : c.deref.result.now ≡ (get_or c.args.sums.now c.loop-counts.counts-index c.counts-item.result).items = cc in
    rank-next c.args.marks.now c.args.sums.now c.requires.tower c.args.number c.loop-counts.counts-index c.loop-counts.at c.loop-counts.place
    c.sum_between-place.result c.counts-item.result (omega arith) c.loop-counts.invariant (rw (← items) c.sum_between-place.ensures)
