use Rattle.std.proofs.Common.{arith}
use Rattle.tap_wire.proofs.Codes.{kind_there}
use Rattle.tap_wire.proofs.kind.Kind.of_code.Goals as goal

pub returns : goal.returns
returns c = kind_there c.args.code _ (omega arith) (omega arith)
