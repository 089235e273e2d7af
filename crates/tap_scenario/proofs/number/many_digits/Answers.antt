use Rattle.std.proofs.Common.{arith, sym, subst}
use Rattle.std.proofs.lemmas.Fmt.{IsAscii-decimal}
use Rattle.std.proofs.lemmas.Str.{IsUtf8-from_ascii}
use Rattle.std.specs.Str.{IsUtf8}
use Rattle.tap_scenario.proofs.Numbers.{number_below-none}
use Rattle.tap_scenario.proofs.number.many_digits.Goals as goal

pub returns-in-Err-clause-value : goal.returns-in-Err-clause-value
returns-in-Err-clause-value c =
    sym (number_below-none _ _ (λ n below is. c.in-Err.ensures.cases.0
    (subst IsUtf8 (sym is) (IsUtf8-from_ascii _ (IsAscii-decimal n (omega (arith, c.ranges.most.fits)))))))
