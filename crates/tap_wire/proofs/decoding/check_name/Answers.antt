use Rattle.std.proofs.Common.{◌∙◌, sym, subst}
use Rattle.tap_name.specs.Name.{IsName}
use Rattle.tap_wire.proofs.Pieces.{are_name}
use Rattle.tap_wire.proofs.decoding.check_name.Goals as goal

pub returns-in-None-clause-name : goal.returns-in-None-clause-name
returns-in-None-clause-name c =
    subst (IsName c.args.settings.now) c.digits_at-digits.ensures
    (are_name c.args.settings.now c.args.bytes.now c.args.place c.digits_at-digits.result.now c.digits_at-digits.ensures c.requires.there
    (sym c.bad_digit_unless.ensures ∙ c.in-None.is))
