use Rattle.std.proofs.Common.{◌∙◌, arith, length-set, set}
use Rattle.tap_report.proofs.PairsLemmas.{text_of_two, two_more}
use Rattle.tap_report.proofs.pairs.print_usual.Goals as goal

pub loop-at-preserved : goal.loop-at-preserved
loop-at-preserved c =
    let both = text_of_two c.digit.result c.digit-in-loop-at.result c.digit.ensures.is_digit c.digit-in-loop-at.ensures.is_digit in
    record {
      places = length-set (set c.loop-at.text _ _) _ _ ∙ length-set c.loop-at.text _ _ ∙ c.loop-at.invariant.places;
      printed = rw (both.0, both.1, c.digit.ensures.value, c.digit-in-loop-at.ensures.value)
          (two_more c.loop-at.text c.args.name.now c.loop-at.at (omega arith) (omega arith) c.loop-at.invariant.printed);
    }
