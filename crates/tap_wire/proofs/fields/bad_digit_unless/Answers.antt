use Rattle.std.proofs.Common.{sym}
use Rattle.tap_wire.proofs.Pieces.{none_bad}
use Rattle.tap_wire.proofs.fields.bad_digit_unless.Goals as goal

pub returns-then-are_digits : goal.returns-then-are_digits
returns-then-are_digits c =
    sym (none_bad c.args.are_digits c.args.settings.now.base c.args.digits.now c.if-are_digits.true c.requires)
