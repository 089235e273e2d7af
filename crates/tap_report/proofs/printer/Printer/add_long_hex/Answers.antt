use Rattle.std.proofs.Common.{arith}
use Rattle.hex.specs.Hex.{encode_with}
use Rattle.tap_report.proofs.TextLemmas.{encode_lower-piece}
use Rattle.tap_report.proofs.PrintsLemmas.{◌⨾◌, Prints-none}
use Rattle.tap_report.proofs.printer.Printer.add_long_hex.Goals as goal

pub loop-done-init : goal.loop-done-init
unfolding encode_with
loop-done-init g c = record {
  within = omega arith;
  text = Prints-none _ _;
}

pub loop-done-preserved : goal.loop-done-preserved
loop-done-preserved g c =
    let was = c.loop-done.invariant in
    record {
      within = omega (arith, c.min-end.ensures);
      text = rw (encode_lower-piece c.args.bytes.now c.loop-done.done c.min-end.result (omega (arith, c.min-end.ensures)))
          (was.text ⨾ c.add_hex_piece.ensures);
    }
