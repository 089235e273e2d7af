use Rattle.std.proofs.Common.{sym, ◌∙◌}
use Rattle.std.proofs.lemmas.Bool.{true≢false}
use Rattle.tap_name.proofs.Words.{is_word-Decides}
use Rattle.tap_scenario.proofs.cast.Word.of.Goals as goal

pub returns-else-is_word-clause-exact : goal.returns-else-is_word-clause-exact
returns-else-is_word-clause-exact c = λ is.
    true≢false (sym ((is_word-Decides c.args.bytes.now).1 is) ∙ sym c.is_word.ensures ∙ c.if-is_word.false)
