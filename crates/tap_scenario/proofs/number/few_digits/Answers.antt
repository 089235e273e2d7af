use Rattle.std.proofs.Common.{rules, arith, ◌≡◌, ◌+◌, ◌<◌, length, get_or, Some, refl, ap, sym, ◌∙◌}
use Rattle.tap_scenario.proofs.Decimals.{empty_word, leading_zero, no_digits, plain_number}
use Rattle.tap_scenario.proofs.number.few_digits.Goals.{else-word-gt1-via-then-word-gt1+else-word-eq48, else-word-gt1-via-else-word-gt1}
use Rattle.tap_scenario.proofs.number.few_digits.Goals as goal

pub returns-then-is_empty-clause-value : goal.returns-then-is_empty-clause-value
returns-then-is_empty-clause-value c =
    sym (empty_word (c.args.most + 1) c.args.word.now (omega (arith, c.ranges.most.fits)) (search rules))

pub returns-then-word-eq48-clause-value : goal.returns-then-word-eq48-clause-value
returns-then-word-eq48-clause-value c =
    sym (leading_zero (c.args.most + 1) c.args.word.now (omega (arith, c.ranges.most.fits)) (search rules) (search rules))

pub returns-in_err-value-clause-value : goal.returns-in_err-value-clause-value
returns-in_err-value-clause-value c =
    c.from_residual.ensures ∙ sym (no_digits (c.args.most + 1) c.args.word.now (omega (arith, c.ranges.most.fits)) (c.in_err-value.ensures.none refl))

pub returns-then-value-most-clause-value : goal.returns-then-value-most-clause-value
returns-then-value-most-clause-value c =
    let told = c.in_ok-value.ensures.some in
    let some : 0 < length c.args.word.now = search rules in
    let lead : get_or c.args.word.now 0 0 ≡ 48 → length c.args.word.now ≡ 1 = elim c.else-word-gt1.branch [
      | else-word-gt1-via-then-word-gt1+else-word-eq48 w ↦ λ zero. absurd (w.if-word-eq48.false zero)
      | else-word-gt1-via-else-word-gt1 w ↦ λ zero. omega (arith, some, w.if-word-gt1.false)
    ] in
    let read = plain_number (c.args.most + 1) c.args.word.now told.1 some c.requires lead (omega (arith, told.0, c.if-value-most.true)) in
    ap Some told.0 ∙ sym read
