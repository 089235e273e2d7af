use Rattle.std.proofs.Common.{◌≡◌, ◌++◌, ◌+◌, ◌<◌, ◌∷◌, ◌∙◌, [], length, take, set, arith, ap, length-set}
use Rattle.std.proofs.lemmas.List.{take_more_set}
use Rattle.tap_name.specs.Name.{text_of_name}
use Rattle.tap_name.proofs.Texts.{text_of_name-all, text_of_name-more}
use Rattle.tap_salt.specs.Salt.{if_salted, name_of_bytes}
use Rattle.tap_salt.proofs.salts.salt.Goals as goal

pub loop-at-preserved : goal.loop-at-preserved
loop-at-preserved c =
    let digits = c.as_slice-digits.result.now in
    let few : length digits < 41 = omega (arith, ap length c.as_slice-digits.ensures.value, c.as_slice-digits.ensures.len) in
    record {
      room = length-set c.loop-at.text c.loop-at.at c.text_of_digit.result ∙ c.loop-at.invariant.room;
      printed = rw c.text_of_digit.ensures (text_of_name-more digits c.loop-at.text c.loop-at.at c.loop-at-test.true
          (omega (arith, few, c.loop-at.invariant.room, c.loop-at-test.true)) c.loop-at.invariant.printed);
    }

pub returns-clause-value : goal.returns-clause-value
returns-clause-value c =
    let digits = c.as_slice-digits.result.now in
    let text = c.loop-at.text in
    let few : length digits < length text =
    omega (arith, ap length c.as_slice-digits.ensures.value, c.as_slice-digits.ensures.len, c.loop-at.invariant.room) in
    let end : c.loop-at.at ≡ length digits = omega (arith, c.loop-at-test.false, c.loop-at.auto.at-end) in
    let printed = text_of_name-all digits text c.loop-at.at end c.loop-at.invariant.printed in
    let bytes : take (length digits + 1) (set text (length digits) c.args.number) ≡ text_of_name c.args.object.now ++ c.args.number ∷ [] =
    take_more_set text (length digits) c.args.number few
    ∙ ap (λ front. front ++ c.args.number ∷ []) (printed ∙ ap text_of_name (c.as_slice-digits.ensures.value ∙ c.digits-name.ensures)) in
    c.name_of.ensures.value ∙ ap (λ given. if_salted c.args.settings.now (name_of_bytes given)) bytes
