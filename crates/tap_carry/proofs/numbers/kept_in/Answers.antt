use Rattle.std.proofs.Common.{sym}
use Rattle.tap_carry.proofs.Ways.{found-at}
use Rattle.tap_carry.proofs.numbers.kept_in.Goals as goal

pub returns-in-Some-clause-key : goal.returns-in-Some-clause-key
returns-in-Some-clause-key c =
    found-at c.args.numbers.now.entries c.args.name.now c.in-Some.field-0-1.now c.in-Some.at c.in-Some.number.now (sym c.in-Some.ensures.key)
    c.in-Some.ensures.entry
