use Rattle.std.proofs.Common.{rules, ◌≡◌, [], ◌∷◌, None, Some}
use Rattle.tap_scenario.specs.PlainWords.{one_in}
use Rattle.tap_scenario.proofs.PlainSteps.{plain_one-read}
use Rattle.tap_scenario.proofs.spelled.spelled_one.Goals as goal

pub returns-in_err-name-2 : goal.returns-in_err-name-2
returns-in_err-name-2 c =
    let given : c.args.words ≡ c.in_ok-name.name.now ∷ [] = search rules in
    let none : one_in c.args.settings.now c.args.kind c.in_ok-name.name.now ≡ None = search rules in
    rw (plain_one-read c.args.settings.now c.args.kind c.in_ok-name.name.now c.args.words c.requires given, none)
    c.from_residual-in_err-name-2.ensures

pub returns : goal.returns
returns c =
    let given : c.args.words ≡ c.in_ok-name.name.now ∷ [] = search rules in
    let some : one_in c.args.settings.now c.args.kind c.in_ok-name.name.now ≡ Some c.in_ok-name-2.name = search rules in
    rw (plain_one-read c.args.settings.now c.args.kind c.in_ok-name.name.now c.args.words c.requires given, some) (search rules)
