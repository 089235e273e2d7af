use Rattle.std.proofs.Common.{◌∙◌, ap, arith, length-set, set, take, ◌+◌}
use Rattle.tap_name.specs.Digits.{digit_of_text}
use Rattle.tap_name.proofs.Values.{map-all, map-more}
use Rattle.tap_name.proofs.reading.put_values.Goals as goal

pub loop-at-preserved : goal.loop-at-preserved
loop-at-preserved c =
    let values = c.loop-at.values in
    let at = c.loop-at.at in
    record {
      room = length-set values at _ ∙ c.loop-at.invariant.room;
      written = ap (λ value. take (at + 1) (set values at value)) c.digit_value.ensures
          ∙ map-more digit_of_text c.args.text.now values at (omega arith) (omega (arith, c.loop-at.invariant.room)) c.loop-at.invariant.written;
    }

pub returns : goal.returns
returns c =
    map-all digit_of_text c.args.text.now c.loop-at.values c.loop-at.at (omega arith) c.loop-at.invariant.room c.loop-at.invariant.written
