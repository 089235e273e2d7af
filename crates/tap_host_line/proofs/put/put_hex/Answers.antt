use Rattle.std.proofs.Common.{◌∙◌, ℕ, append-nil, arith, sym}
use Rattle.hex.specs.Hex.{encode_with}
use Rattle.tap_host_line.proofs.Rooms.{all_printed, piece_printed}
use Rattle.tap_host_line.proofs.put.put_hex.Goals as goal

pub loop-done-init : goal.loop-done-init
unfolding encode_with
loop-done-init c = record {
  within = omega arith;
  text = sym (append-nil c.args.out.now.items);
}

pub loop-done-preserved : goal.loop-done-preserved
loop-done-preserved c =
    let was = c.loop-done.invariant in
    let from : ℕ = c.loop-done.done in
    let to : ℕ = c.min-end.result in
    record {
      within = omega (arith, c.min-end.ensures);
      text = c.in_ok-put_few_hex.ensures
          ∙ piece_printed c.args.out.now.items c.loop-done.out.items c.args.bytes.now from to
          (omega (arith, c.min-end.ensures, c.loop-done-test.true)) was.text;
    }

pub returns : goal.returns
returns c =
    all_printed c.args.out.now.items c.loop-done.out.items c.args.bytes.now c.loop-done.done c.loop-done-test.false c.loop-done.invariant.text
