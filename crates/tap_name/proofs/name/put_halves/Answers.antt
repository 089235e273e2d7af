use Rattle.std.proofs.Common.{◌≡◌, ◌+◌, ◌*◌, ◌/◌, ◌%◌, ◌<◌, ◌∙◌, ℕ, take, get_or, ap, arith, set, length-set}
use Rattle.tap_name.specs.Packed.{both_halves}
use Rattle.tap_name.proofs.Halves.{halves-all, halves-more}
use Rattle.tap_name.proofs.name.put_halves.Goals as goal

pub loop-at-preserved : goal.loop-at-preserved
loop-at-preserved c =
    let at = c.loop-at.at in
    let digits = c.loop-at.digits in
    let byte = get_or c.args.bytes.now at 0 in
    let both = get_or c.both_halves-both.result at 0 in
    let small : byte < 256 = omega (arith, c.type_inv.bytes at) in
    let is : both ≡ both_halves byte = c.both_halves-both.ensures at (omega arith) in
    let high : both % 256 ≡ byte / 16 = omega (arith, is, small) in
    let low : both / 256 ≡ byte % 16 = omega (arith, is, small) in
    record {
      room = length-set (set digits _ _) _ _ ∙ length-set digits _ _ ∙ c.loop-at.invariant.room;
      written = ap (λ (x : ℕ). take (2 * (at + 1)) (set (set digits (2 * at) x) (2 * at + 1) (both / 256))) high
          ∙ ap (λ (x : ℕ). take (2 * (at + 1)) (set (set digits (2 * at) (byte / 16)) (2 * at + 1) x)) low
          ∙ halves-more digits c.args.bytes.now at (omega arith) c.loop-at.invariant.room c.loop-at.invariant.written;
    }

pub returns : goal.returns
returns c =
    halves-all c.loop-at.digits c.args.bytes.now c.loop-at.at (omega arith) c.loop-at.invariant.room c.loop-at.invariant.written
