use Rattle.std.proofs.Common.{◌/◌, ◌%◌, ap}
use Rattle.tap_make.proofs.Naming.{hexadecimal_power}
use Rattle.tap_make.proofs.names.hexadecimal_digit.Goals as goal

pub returns : goal.returns
returns c = ap (λ p. c.args.number / p % 16) (hexadecimal_power c.args.place)
