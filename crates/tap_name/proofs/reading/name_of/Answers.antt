use Rattle.std.proofs.Common.{◌∙◌, ap, arith, refl, sym, Ok}
use Rattle.tap_name.proofs.Read.{all_good}
use Rattle.tap_name.proofs.Values.{bad_found, each_below}
use Rattle.tap_name.proofs.reading.name_of.Goals as goal

pub unwrap-requires : goal.unwrap-requires
unwrap-requires c =
    let found = bad_found c.base-base.result c.args.digits.now (sym c.are_below.ensures ∙ c.if-are_below.false) in
    rw (c.first_bad.ensures, found.1) refl

pub returns-then-are_below-clause-value : goal.returns-then-are_below-clause-value
returns-then-are_below-clause-value c =
    let below = each_below c.base-base.result c.args.digits.now (sym c.are_below.ensures ∙ c.if-are_below.true) in
    ap Ok c.of.ensures
    ∙ sym (all_good c.args.settings.now c.args.digits.now c.requires (λ k h. omega (arith, below k h, c.base-base.ensures.value)))
