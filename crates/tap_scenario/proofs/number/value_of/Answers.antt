use Rattle.std.proofs.Common.{arith}
use Rattle.std.proofs.lemmas.Str.Parse.{digit_at}
use Rattle.tap_scenario.proofs.Decimals.{before_digit, next_digit}
use Rattle.tap_scenario.proofs.number.value_of.Goals as goal

pub overflow_mul-value : goal.overflow_mul-value
overflow_mul-value c =
    let small = before_digit c.args.digits.now c.loop-at.at c.loop-at.value c.loop-at-test.true c.requires c.loop-at.invariant.0 c.loop-at.invariant.1 in
    omega (arith, small)

pub overflow_add-value : goal.overflow_add-value
overflow_add-value c =
    let small = before_digit c.args.digits.now c.loop-at.at c.loop-at.value c.loop-at-test.true c.requires c.loop-at.invariant.0 c.loop-at.invariant.1 in
    omega (arith, small, c.in-48-to-57)

pub loop-at-preserved : goal.loop-at-preserved
loop-at-preserved c =
    next_digit c.args.digits.now c.loop-at.at c.loop-at.value c.loop-at-test.true c.loop-at.invariant.0 c.loop-at.invariant.1
    (omega (arith, c.in-48-to-57))

pub returns-in_default-clause-none : goal.returns-in_default-clause-none
returns-in_default-clause-none c = λ none all.
    let range = digit_at c.args.digits.now c.loop-at.at all c.loop-at-test.true in omega (arith, range, c.in_default)

pub returns-in_default-2-clause-none : goal.returns-in_default-2-clause-none
returns-in_default-2-clause-none c = λ none all.
    let range = digit_at c.args.digits.now c.loop-at.at all c.loop-at-test.true in omega (arith, range, c.in_default)
