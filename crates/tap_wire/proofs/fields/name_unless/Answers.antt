use Rattle.std.proofs.Common.{◌∙◌, sym}
use Rattle.tap_wire.proofs.Pieces.{are_name}
use Rattle.tap_wire.proofs.fields.name_unless.Goals as goal

pub name_of-requires : goal.name_of-requires
name_of-requires c =
    are_name c.args.settings.now c.args.bytes.now c.args.place c.digits_at-digits.result.now c.digits_at-digits.ensures c.requires.there
    (sym c.bad_digit_unless.ensures ∙ c.in-None.is)
