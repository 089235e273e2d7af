use Rattle.std.proofs.Common.{◌≡◌, length, Err, rules}
use Rattle.tap_name.specs.Name.{name_of_digits}
use Rattle.tap_scenario.specs.Step.{with_digits}
use Rattle.tap_scenario.proofs.Casts.{name_of_digits-prefix}
use Rattle.tap_scenario.proofs.cast.Prefix.of.Goals as goal

pub returns-in-Err : goal.returns-in-Err
returns-in-Err c = λ is.
    let good = name_of_digits-prefix c.args.settings.now c.args.digits.now is in
    let same : c.in_ok-shorter.shorter ≡ with_digits (length c.args.digits.now) c.args.settings.now = search rules in
    let refused : Err c.in-Err.field-0 ≡ name_of_digits c.in_ok-shorter.shorter c.args.digits.now = c.in-Err.ensures.value in
    let both = rw same at refused in
    cc
