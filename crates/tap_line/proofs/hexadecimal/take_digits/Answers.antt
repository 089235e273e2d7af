use Rattle.std.proofs.Common.{◌==◌, ◌&&◌, ◌+◌, ◌∙◌, ap, get_or, length-set, set, take}
use Rattle.tap_name.specs.Digits.{text_of_digit}
use Rattle.tap_line.proofs.Loose.{all_more, taken_more}
use Rattle.tap_line.proofs.hexadecimal.take_digits.Goals as goal

pub loop-at-preserved : goal.loop-at-preserved
loop-at-preserved c =
    let text = c.args.text.now in
    let at = c.loop-at.at in
    let before = c.loop-at.invariant in
    let value = c.value_of-value.ensures.value in
    let printed = c.text_of_digit.ensures ∙ ap text_of_digit value in
    record {
      room = length-set c.loop-at.values _ _ ∙ before.room;
      all = c.both-good.ensures ∙ ap (λ byte. c.loop-at.good && (byte == get_or text at 0)) printed
          ∙ all_more text at c.loop-at.good c.loop-at-test.true before.all;
      taken = ap (λ v. take (at + 1) (set c.loop-at.values at v)) value
          ∙ taken_more text c.loop-at.values at c.loop-at-test.true before.room before.taken;
    }
