use Rattle.std.proofs.Common.{arith}
use Rattle.tap_name.proofs.Heads.{equal_by_head}
use Rattle.tap_name.proofs.name.NamePartialEq.eq.Goals as goal

pub returns-then-are_heads : goal.returns-then-are_heads
returns-then-are_heads c =
    let both = c.if-are_heads.ensures in
    equal_by_head c.args.self.now c.args.other.now c.head.result c.head-2.result c.head.ensures.value c.head-2.ensures.value
    c.head.ensures.digits c.head-2.ensures.digits both.0 both.1 (omega arith)
