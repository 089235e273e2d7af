use Rattle.std.proofs.Common.{rules, ◌≡◌, None, Some}
use Rattle.tap_salt.specs.Salt.{if_salted, salt_of, salts_of}
use Rattle.tap_scenario.specs.Kind.{link_of_pair}
use Rattle.tap_scenario.specs.Spelling.{name_in}
use Rattle.tap_scenario.specs.Spread.{pair_of_spread}
use Rattle.tap_scenario.specs.Words.{words_around}
use Rattle.tap_scenario.proofs.PlainSteps.{around-back, if_salted-back, words_for_salts-read}
use Rattle.tap_scenario.proofs.spelled.steps_for_salts.Goals as goal

pub returns-in_err-object-2 : goal.returns-in_err-object-2
returns-in_err-object-2 c = λ carrier.
    let p = c.args.settings.now in
    let object = c.in_ok-object.object.now in
    let other = c.in_ok-object.other.now in
    let around : words_around (link_of_pair (pair_of_spread c.args.kind)) c.args.words ≡ Some (object, other) = search rules in
    let given = around-back (link_of_pair (pair_of_spread c.args.kind)) c.args.words (object, other) around in
    let none : name_in p object ≡ None = search rules in
    rw (given, words_for_salts-read p carrier c.args.kind object other c.requires, none) c.from_residual-in_err-object-2.ensures

pub returns-in_err-other : goal.returns-in_err-other
returns-in_err-other c = λ carrier.
    let p = c.args.settings.now in
    let object = c.in_ok-object.object.now in
    let other = c.in_ok-object.other.now in
    let around : words_around (link_of_pair (pair_of_spread c.args.kind)) c.args.words ≡ Some (object, other) = search rules in
    let given = around-back (link_of_pair (pair_of_spread c.args.kind)) c.args.words (object, other) around in
    let some : name_in p object ≡ Some c.in_ok-object-2.object = search rules in
    let none : name_in p other ≡ None = search rules in
    rw (given, words_for_salts-read p carrier c.args.kind object other c.requires, some, none) c.from_residual-in_err-other.ensures

pub returns-in_err-first : goal.returns-in_err-first
returns-in_err-first c = λ carrier.
    let p = c.args.settings.now in
    let object = c.in_ok-object.object.now in
    let other = c.in_ok-object.other.now in
    let around : words_around (link_of_pair (pair_of_spread c.args.kind)) c.args.words ≡ Some (object, other) = search rules in
    let given = around-back (link_of_pair (pair_of_spread c.args.kind)) c.args.words (object, other) around in
    let a : name_in p object ≡ Some c.in_ok-object-2.object = search rules in
    let b : name_in p other ≡ Some c.in_ok-other.other = search rules in
    let none : if_salted p (salts_of c.in_ok-object-2.object) ≡ None = search rules in
    rw (given, words_for_salts-read p carrier c.args.kind object other c.requires, a, b, none) c.from_residual-in_err-first.ensures

pub returns : goal.returns
returns c = λ carrier.
    let p = c.args.settings.now in
    let object = c.in_ok-object.object.now in
    let other = c.in_ok-object.other.now in
    let name = c.in_ok-object-2.object in
    let around : words_around (link_of_pair (pair_of_spread c.args.kind)) c.args.words ≡ Some (object, other) = search rules in
    let given = around-back (link_of_pair (pair_of_spread c.args.kind)) c.args.words (object, other) around in
    let a : name_in p object ≡ Some name = search rules in
    let b : name_in p other ≡ Some c.in_ok-other.other = search rules in
    let there : if_salted p (salts_of name) ≡ Some c.in_ok-first.field-0 = search rules in
    let salts = if_salted-back p (salts_of name) c.in_ok-first.field-0 there in
    let first : c.index-branch-0.result ≡ salt_of name 1 = rw (← salts) at c.index-branch-0.is in
    let second : c.index-branch-1.result ≡ salt_of name 2 = rw (← salts) at c.index-branch-1.is in
    let third : c.index-branch-2.result ≡ salt_of name 3 = rw (← salts) at c.index-branch-2.is in
    let fourth : c.index-branch-3.result ≡ salt_of name 4 = rw (← salts) at c.index-branch-3.is in
    rw (given, words_for_salts-read p carrier c.args.kind object other c.requires, a, b, there, ← salts) (search rules)
