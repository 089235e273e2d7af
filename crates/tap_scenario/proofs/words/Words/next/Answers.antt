use Rattle.std.proofs.lemmas.List.{take_rest}
use Rattle.std.proofs.Common.{sym, ◌∙◌}
use Rattle.tap_scenario.proofs.Splits.{words-at_space, words-no_space}
use Rattle.tap_scenario.proofs.words.Words.next.Goals as goal

pub returns-in-Some : goal.returns-in-Some
returns-in-Some c =
    rw (← c.self.view_is, c.in_ok-text.was, take_rest) (words-at_space c.in_ok-text.text.now c.in-Some.at
    (sym c.first_space.ensures ∙ c.in-Some.is))

pub returns-in-None : goal.returns-in-None
returns-in-None c =
    rw (← c.self.view_is, c.in_ok-text.was) (words-no_space c.in_ok-text.text.now (sym c.first_space.ensures ∙ c.in-None.is))
