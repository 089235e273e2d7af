use Rattle.std.proofs.Common.{arith}
use Rattle.tap_name.proofs.Heads.{above_by_head, below_by_head, same_by_head}
use Rattle.tap_name.proofs.name.NameOrd.cmp.Goals as goal

pub returns-then-mine-theirs : goal.returns-then-mine-theirs
returns-then-mine-theirs c =
    below_by_head c.args.self.now c.args.other.now c.head-mine.result c.head-theirs.result c.head-mine.ensures.value
    c.head-theirs.ensures.value c.head-mine.ensures.digits c.head-theirs.ensures.digits c.if-mine-theirs.true

pub returns-then-theirs-mine : goal.returns-then-theirs-mine
returns-then-theirs-mine c =
    above_by_head c.args.self.now c.args.other.now c.head-mine.result c.head-theirs.result c.head-mine.ensures.value
    c.head-theirs.ensures.value c.head-mine.ensures.digits c.head-theirs.ensures.digits c.if-theirs-mine.true

pub returns-then-are_heads : goal.returns-then-are_heads
returns-then-are_heads c =
    let both = c.if-are_heads.ensures in
    same_by_head c.args.self.now c.args.other.now c.head-mine.result c.head-theirs.result c.head-mine.ensures.value
    c.head-theirs.ensures.value c.head-mine.ensures.digits c.head-theirs.ensures.digits both.0 both.1 (omega arith)
