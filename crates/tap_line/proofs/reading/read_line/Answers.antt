use Rattle.tap_line.proofs.Answered.{line_answered}
use Rattle.tap_line.proofs.reading.read_line.Goals as goal

pub returns-clause-exact : goal.returns-clause-exact
returns-clause-exact c =
    let split = c.of.ensures in
    let ok = c.line_of_words.ensures.ok in
    let none = c.line_of_words.ensures.none in
    line_answered c.args.settings.now c.args.carrier c.args.text.now c.line_of_words.result c.base-base.ensures.valid (rw split at ok) (rw split at none)
