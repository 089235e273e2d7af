use Rattle.std.proofs.Common.{◌<◌, List, ℕ, All, arith, subst}
use Rattle.std.specs.Bool.{OnTrue}
use Rattle.std.proofs.lemmas.List.{take_all}
use Rattle.tap_wire.proofs.fields.are_digits.Goals as goal

pub returns-then-digits-eq-USUAL_DIGITS : goal.returns-then-digits-eq-USUAL_DIGITS
returns-then-digits-eq-USUAL_DIGITS c =
    let digits = c.args.digits.now in
    subst (λ (ds : List ℕ). OnTrue c.are_below.result (All (λ d. d < c.args.settings.now.base) ds))
    (take_all 8 digits (omega (arith, c.if-digits-eq-USUAL_DIGITS.true)))
    (rw c.base.ensures.value at c.are_below.ensures)
