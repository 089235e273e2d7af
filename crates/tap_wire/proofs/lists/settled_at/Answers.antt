use Rattle.std.proofs.Common.{◌∙◌, Result, Ok, Err, OnOk, arith, sym, subst}
use Rattle.tap_name.specs.Name.{IsName}
use Rattle.tap_wire.proofs.Pieces.{are_name}
use Rattle.tap_wire.proofs.lists.settled_at.Goals as goal

-- what holds anyway holds of a value
of_value : {X E P : Type 0} (r : Result X E) → P → OnOk r P
of_value (Ok x) holds = holds
of_value (Err e) holds = tt

pub returns-clause-name : goal.returns-clause-name
returns-clause-name c =
    let p = c.args.settings.now in
    of_value c.flag_at.result (subst (IsName p) c.digits_at-digits.ensures
    (are_name p c.args.bytes.now c.args.place c.digits_at-digits.result.now c.digits_at-digits.ensures (omega (arith, c.requires.there))
    (sym c.bad_digit_unless.ensures ∙ c.in_default.is)))
