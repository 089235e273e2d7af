use Rattle.std.proofs.Common.{◌+◌, ◌*◌, ◌<◌, ◌++◌, length, arith, ap, ◌∙◌}
use Rattle.tap_table.specs.ByName.{range_by_name}
use Rattle.tap_table.specs.ByName.{targets_by_name, targets_of}
use Rattle.tap_table.specs.Ties.{off_ties}
use Rattle.tap_table.proofs.LinksByName.{links_from, links_in}
use Rattle.tap_table.proofs.LinksByName.{numbers_left, targets_in_ranges, words_left}
use Rattle.tap_table.proofs.off.off_ties.Goals as goal

pub push_range-requires-clause-numbers : goal.push_range-requires-clause-numbers
push_range-requires-clause-numbers c =
    let t = c.args.table.now in
    let i = c.loop-i.i in
    let digits = c.digits.ensures.value ∙ ap (λ p. p.digits) c.settings.ensures.value in
    let inside : i < 2 * t.settings.digits = omega (arith, c.loop-i-test.true, digits) in
    let here = targets_of (links_in t (range_by_name t.settings t.owner i)) in
    let range = ap (λ r. length (targets_of (links_in t r))) c.range_by_name.ensures.value in
    let numbers = numbers_left c.loop-i.stamp here (targets_of (links_from t (i + 1))) (targets_of (links_from t i))
    (targets_in_ranges t i inside) (c.args.stamp.now + length (targets_by_name t)) c.loop-i.invariant.0 in
    omega (arith, range, numbers, c.requires)

pub loop-i-preserved : goal.loop-i-preserved
loop-i-preserved c =
    let t = c.args.table.now in
    let i = c.loop-i.i in
    let stamp = c.loop-i.stamp in
    let digits = c.digits.ensures.value ∙ ap (λ p. p.digits) c.settings.ensures.value in
    let inside : i < 2 * t.settings.digits = omega (arith, c.loop-i-test.true, digits) in
    let here = targets_of (links_in t (range_by_name t.settings t.owner i)) in
    let rest = targets_of (links_from t (i + 1)) in
    let left = targets_of (links_from t i) in
    let all = targets_by_name t in
    let parts = targets_in_ranges t i inside in
    let range = ap (λ r. targets_of (links_in t r)) c.range_by_name.ensures.value in
    let stamped = c.in_ok-push_range.ensures.stamped ∙ ap (λ names. stamp + length names) range in
    let pushed = c.in_ok-push_range.ensures.value ∙ ap (λ names. c.loop-i.words.items ++ off_ties stamp names) range in (
      rw stamped (numbers_left stamp here rest left parts (c.args.stamp.now + length all) c.loop-i.invariant.0),
      rw (pushed, stamped) (words_left stamp here rest left parts c.loop-i.words.items (off_ties c.args.stamp.now all)
          c.loop-i.invariant.1),
      omega (arith, stamped, c.loop-i.invariant.2),
    )

-- memory was refused on the way
pub returns-in_err-push_range-clause-given : goal.returns-in_err-push_range-clause-given
returns-in_err-push_range-clause-given c =
    let t = c.args.table.now in
    let i = c.loop-i.i in
    let digits = c.digits.ensures.value ∙ ap (λ p. p.digits) c.settings.ensures.value in
    let inside : i < 2 * t.settings.digits = omega (arith, c.loop-i-test.true, digits) in
    let here = targets_of (links_in t (range_by_name t.settings t.owner i)) in
    let range = ap (λ r. length (targets_of (links_in t r))) c.range_by_name.ensures.value in
    let numbers = numbers_left c.loop-i.stamp here (targets_of (links_from t (i + 1))) (targets_of (links_from t i))
    (targets_in_ranges t i inside) (c.args.stamp.now + length (targets_by_name t)) c.loop-i.invariant.0 in
    let given = c.push_range.ensures.given in
    record {
      forward = omega (arith, given.forward, c.loop-i.invariant.2);
      few = omega (arith, given.few, range, numbers);
    }
