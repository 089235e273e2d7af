use Rattle.std.proofs.Common.{sym}
use Rattle.tap_name.proofs.Heads.{tied_if_same}
use Rattle.tap_name.proofs.name.cmp_digits.Goals as goal

pub returns-then-are_same : goal.returns-then-are_same
returns-then-are_same c = tied_if_same c.args.mine.now c.args.theirs.now (sym c.if-are_same.ensures)
