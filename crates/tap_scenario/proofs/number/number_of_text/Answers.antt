use Rattle.std.proofs.Common.{◌≡◌, ◌∙◌, sym, ap, arith, Some, None, true, bytes_eq}
use Rattle.std.specs.Prelude.{decimal, unwrap_or}
use Rattle.std.specs.Result.{result_ok}
use Rattle.std.proofs.lemmas.Bool.{false≢true}
use Rattle.std.proofs.lemmas.Fmt.{parse-decimal}
use Rattle.std.proofs.lemmas.Slice.Eq.{bytes_eq-Decides}
use Rattle.tap_scenario.proofs.Numbers.{number_below-decimal, number_below-none}
use Rattle.tap_scenario.proofs.number.number_of_text.Goals as goal

pub returns-in-Err-clause-value : goal.returns-in-Err-clause-value
returns-in-Err-clause-value c =
    sym (number_below-none _ _ (λ n below is.
    let read : None ≡ Some n = ap result_ok (sym c.in-Err.is
    ∙ parse-decimal 64 n c.args.text.now c.parse.result (omega (arith, c.ranges.most.fits))
    (omega (arith, c.ranges.most.fits)) is c.parse.ensures.value.0) in cc))

pub returns-else-eq-clause-value : goal.returns-else-eq-clause-value
returns-else-eq-clause-value c =
    sym (number_below-none _ _ (λ n below is.
    let same : c.in-Ok.number ≡ n =
    ap (λ o. unwrap_or o 0) (ap result_ok (sym c.in-Ok.is
    ∙ parse-decimal 64 n c.args.text.now c.parse.result (omega (arith, c.ranges.most.fits))
    (omega (arith, c.ranges.most.fits)) is c.parse.ensures.value.0)) in
    let text : c.format.result.now ≡ c.args.text.now = c.format.ensures.text ∙ ap decimal same ∙ sym is in
    let equal : bytes_eq c.format.result.now c.args.text.now ≡ true = (bytes_eq-Decides c.format.result.now c.args.text.now).1 text in
    false≢true (sym c.if-eq.false ∙ c.eq.ensures ∙ equal)))

pub returns-then-number-most-clause-value : goal.returns-then-number-most-clause-value
returns-then-number-most-clause-value c =
    let text : c.format.result.now ≡ c.args.text.now =
    (bytes_eq-Decides c.format.result.now c.args.text.now).0 (sym c.eq.ensures ∙ c.if-eq.true) in
    sym (number_below-decimal _ c.in-Ok.number c.args.text.now (omega arith) (omega (arith, c.ranges.most.fits))
    (sym text ∙ c.format.ensures.text))

pub returns-else-number-most-clause-value : goal.returns-else-number-most-clause-value
returns-else-number-most-clause-value c =
    sym (number_below-none _ _ (λ n below is.
    let same : c.in-Ok.number ≡ n =
    ap (λ o. unwrap_or o 0) (ap result_ok (sym c.in-Ok.is
    ∙ parse-decimal 64 n c.args.text.now c.parse.result (omega (arith, c.ranges.most.fits))
    (omega (arith, c.ranges.most.fits)) is c.parse.ensures.value.0)) in
    omega arith))
