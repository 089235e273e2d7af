use Rattle.std.proofs.Common.{rules, ◌≡◌, [], ◌∷◌, None, Some}
use Rattle.tap_scenario.specs.Spelling.{name_in}
use Rattle.tap_scenario.proofs.PlainSteps.{plain_cast-read}
use Rattle.tap_scenario.proofs.spelled.spelled_cast.Goals as goal

pub returns-in_err-asker-2 : goal.returns-in_err-asker-2
returns-in_err-asker-2 c =
    let word = c.in_ok-word.word.now in
    let to = c.in_ok-to.to.now in
    let prefix = c.in_ok-prefix.prefix.now in
    let from = c.in_ok-from.from.now in
    let asker = c.in_ok-asker.asker.now in
    let given : c.args.words ≡ word ∷ to ∷ prefix ∷ from ∷ asker ∷ [] = search rules in
    let none : name_in c.args.settings.now asker ≡ None = search rules in
    rw (given, plain_cast-read c.args.settings.now word to prefix from asker c.requires, none) (search rules)

pub returns : goal.returns
returns c =
    let word = c.in_ok-word.word.now in
    let to = c.in_ok-to.to.now in
    let prefix = c.in_ok-prefix.prefix.now in
    let from = c.in_ok-from.from.now in
    let asker = c.in_ok-asker.asker.now in
    let given : c.args.words ≡ word ∷ to ∷ prefix ∷ from ∷ asker ∷ [] = search rules in
    let some : name_in c.args.settings.now asker ≡ Some c.in_ok-asker-2.asker = search rules in
    rw (given, plain_cast-read c.args.settings.now word to prefix from asker c.requires, some) (search rules)
