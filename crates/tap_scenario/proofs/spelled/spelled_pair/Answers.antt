use Rattle.std.proofs.Common.{rules, ◌≡◌, None, Some}
use Rattle.tap_scenario.specs.Kind.{link_of_pair}
use Rattle.tap_scenario.specs.PlainWords.{first_in}
use Rattle.tap_scenario.specs.Spelling.{name_in}
use Rattle.tap_scenario.specs.Words.{words_around}
use Rattle.tap_scenario.proofs.PlainSteps.{around-back, plain_pair-read}
use Rattle.tap_scenario.proofs.spelled.spelled_pair.Goals as goal

pub returns-in_err-first-2 : goal.returns-in_err-first-2
returns-in_err-first-2 c =
    let first = c.in_ok-first.first.now in
    let second = c.in_ok-first.second.now in
    let around : words_around (link_of_pair c.args.kind) c.args.words ≡ Some (first, second) = search rules in
    let none : first_in c.args.settings.now c.args.kind first ≡ None = search rules in
    let given = around-back (link_of_pair c.args.kind) c.args.words (first, second) around in
    rw (given, plain_pair-read c.args.settings.now c.args.kind first second c.requires, none)
    c.from_residual-in_err-first-2.ensures

pub returns-in_err-second : goal.returns-in_err-second
returns-in_err-second c =
    let first = c.in_ok-first.first.now in
    let second = c.in_ok-first.second.now in
    let around : words_around (link_of_pair c.args.kind) c.args.words ≡ Some (first, second) = search rules in
    let some : first_in c.args.settings.now c.args.kind first ≡ Some c.in_ok-first-2.first = search rules in
    let none : name_in c.args.settings.now second ≡ None = search rules in
    let given = around-back (link_of_pair c.args.kind) c.args.words (first, second) around in
    rw (given, plain_pair-read c.args.settings.now c.args.kind first second c.requires, some, none)
    c.from_residual-in_err-second.ensures

pub returns : goal.returns
returns c =
    let first = c.in_ok-first.first.now in
    let second = c.in_ok-first.second.now in
    let around : words_around (link_of_pair c.args.kind) c.args.words ≡ Some (first, second) = search rules in
    let a : first_in c.args.settings.now c.args.kind first ≡ Some c.in_ok-first-2.first = search rules in
    let b : name_in c.args.settings.now second ≡ Some c.in_ok-second.second = search rules in
    let given = around-back (link_of_pair c.args.kind) c.args.words (first, second) around in
    rw (given, plain_pair-read c.args.settings.now c.args.kind first second c.requires, a, b)
    (search rules)
