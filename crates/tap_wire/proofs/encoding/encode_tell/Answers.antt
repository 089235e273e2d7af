use Rattle.std.proofs.Common.{◌≡◌, ◌+◌, ◌*◌, length, arith}
use Rattle.tap_wire.specs.Spelling.{body_bytes, tell_frame}
use Rattle.tap_wire.proofs.Lengths.{length-body}
use Rattle.tap_wire.proofs.Frames.{length-spelling}
use Rattle.tap_wire.proofs.encoding.encode_tell.Goals as goal

pub encode_long_tell-requires-clause-long : goal.encode_long_tell-requires-clause-long
encode_long_tell-requires-clause-long c =
    let frame = tell_frame c.args.from.now c.args.to.now c.args.fields.now c.args.watch.now in
    omega (arith, length-body c.args.settings.now frame.body c.requires.body, c.fixed_len.ensures.value, c.len.ensures)

pub put_tell_frame-end-requires-clause-long : goal.put_tell_frame-end-requires-clause-long
put_tell_frame-end-requires-clause-long c =
    let frame = tell_frame c.args.from.now c.args.to.now c.args.fields.now c.args.watch.now in
    omega (arith, length-body c.args.settings.now frame.body c.requires.body, c.fixed_len.ensures.value, c.len.ensures)

pub put_tell_frame-end-requires-clause-room : goal.put_tell_frame-end-requires-clause-room
put_tell_frame-end-requires-clause-room c =
    let p = c.args.settings.now in
    let frame = tell_frame c.args.from.now c.args.to.now c.args.fields.now c.args.watch.now in
    let long : c.fixed_len.result + 2 * c.len.result ≡ length (body_bytes frame.body) =
    omega (arith, length-body p frame.body c.requires.body, c.fixed_len.ensures.value, c.len.ensures) in
    omega (arith, length-spelling p frame c.body_start.ensures.valid c.requires, long, c.body_start.ensures.value)
