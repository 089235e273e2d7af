use Rattle.std.proofs.Common.{◌≡◌, ◌∙◌, ap, sym}
use Rattle.tap_scenario.specs.Words.{words}
use Rattle.tap_line.specs.Front.{is_rest}
use Rattle.tap_line.proofs.Rests.{is_rest-words}
use Rattle.tap_line.proofs.taking.is_rest.Goals as goal

pub returns-in-Some : goal.returns-in-Some
returns-in-Some c =
    let left : words c.in-Some.text.now ≡ c.args.words = rw c.in-Some.is at c.text.ensures in
    c.is_same.ensures ∙ sym (is_rest-words c.args.phrase.now c.in-Some.text.now) ∙ ap (is_rest c.args.phrase.now) left
