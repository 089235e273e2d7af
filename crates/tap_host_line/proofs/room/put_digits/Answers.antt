use Rattle.std.proofs.Common.{ℕ, arith, slice_index, ◌/◌, ◌%◌, ◌<◌, ◌∙◌}
use Rattle.hex.specs.Hex.{lower_digits}
use Rattle.hex.proofs.Pairs.{encode_done, encode_step}
use Rattle.tap_host_line.proofs.Rooms.{digit_printed}
use Rattle.tap_host_line.proofs.room.put_digits.Goals as goal

pub loop-at-preserved : goal.loop-at-preserved
loop-at-preserved c =
    let at = c.loop-at.at in
    let byte : ℕ = slice_index c.args.bytes.now at in
    let fits = c.type_inv.bytes at in
    let high : byte / 16 < 16 = omega (arith, fits) in
    let low : byte % 16 < 16 = omega arith in
    encode_step lower_digits c.args.bytes.now c.loop-at.text at _ _ (omega arith) (omega arith)
    (c.text_of_digit.ensures ∙ digit_printed (byte / 16) high)
    (c.text_of_digit-in-loop-at.ensures ∙ digit_printed (byte % 16) low) c.loop-at.invariant

pub returns : goal.returns
returns c = encode_done lower_digits _ _ c.loop-at.at (omega arith) (omega arith) c.loop-at.invariant
