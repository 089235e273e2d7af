use Rattle.std.proofs.Common.{◌≡◌, IsUtf8, ◌∙◌, ap, length, length-set, take, rules, arith}
use Rattle.std.proofs.lemmas.Result.{MatchResult-at_ok}
use Rattle.tap_name.specs.Name.{text_of_name}
use Rattle.tap_name.proofs.Texts.{text_of_name-more, text_of_name-all, text_of_name-IsUtf8}
use Rattle.tap_name.proofs.display.NameDisplay.fmt.Given.{Over}
use Rattle.tap_name.proofs.display.NameDisplay.fmt.Goals as goal

pub loop-at-preserved : goal.loop-at-preserved
loop-at-preserved g c =
    let few : length c.as_slice-digits.result.now ≡ length c.digits-name.result = ap length c.as_slice-digits.ensures.value in
    record {
      room = length-set c.loop-at.text c.loop-at.at c.text_of_digit.result ∙ c.loop-at.invariant.room;
      printed = rw c.text_of_digit.ensures (text_of_name-more c.as_slice-digits.result.now c.loop-at.text c.loop-at.at c.loop-at-test.true
          (omega (arith, few, c.as_slice-digits.ensures.len, c.loop-at.invariant.room)) c.loop-at.invariant.printed);
    }

pub unwrap-requires : goal.unwrap-requires
unwrap-requires g c =
    let digits = c.as_slice-digits.result.now in
    let all = text_of_name-all digits c.loop-at.text c.loop-at.at (omega arith) c.loop-at.invariant.printed in
    let text : IsUtf8 (take (length digits) c.loop-at.text) =
    rw (all, c.as_slice-digits.ensures.value) (text_of_name-IsUtf8 c.digits-name.result c.as_slice-digits.ensures.digits) in
    search rules

is_text : (g : Over) (c : goal.After-pad g) → c.unwrap.result.now ≡ text_of_name c.args.self.now
is_text g c =
    let whole = MatchResult-at_ok _ _ _ c.unwrap.ensures c.from_utf8.ensures.cases in
    let all = text_of_name-all c.as_slice-digits.result.now c.loop-at.text c.loop-at.at (omega arith) c.loop-at.invariant.printed in
    whole.0 ∙ all ∙ ap text_of_name (c.as_slice-digits.ensures.value ∙ c.digits-name.ensures)

pub returns-clause-writes : goal.returns-clause-writes
returns-clause-writes g c = rw (← is_text g c) c.pad.ensures.writes

pub returns-clause-styled : goal.returns-clause-styled
returns-clause-styled g c = rw (← is_text g c) c.pad.ensures.text
