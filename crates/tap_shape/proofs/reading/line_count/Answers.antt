use Rattle.std.proofs.Common.{◌≤◌, arith, length, length-take-le, sym, take}
use Rattle.tap_shape.specs.Text.{line_count}
use Rattle.tap_shape.proofs.Feeds.{count_split}
use Rattle.tap_shape.proofs.reading.line_count.Goals as goal

pub slice_bounds-piece_line_count-end : goal.slice_bounds-piece_line_count-end
slice_bounds-piece_line_count-end c =
    let more = c.loop-rest-test.true in sym (length-take-le 192 c.loop-rest.rest.now (omega (arith, more)))

pub piece_line_count-requires : goal.piece_line_count-requires
piece_line_count-requires c =
    let more = c.loop-rest-test.true in
    let size = length-take-le 192 c.loop-rest.rest.now (omega (arith, more)) in
    let small : length (take 192 c.loop-rest.rest.now) ≤ 192 = omega (arith, size) in
    small

pub loop-rest-preserved : goal.loop-rest-preserved
loop-rest-preserved c =
    let more = c.loop-rest-test.true in
    count_split c.loop-rest.rest.now c.loop-rest.count c.piece_line_count.result (line_count c.args.bytes.now) 192 (omega (arith, more))
    c.loop-rest.invariant c.piece_line_count.ensures
