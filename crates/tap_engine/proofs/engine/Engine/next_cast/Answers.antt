use Rattle.std.proofs.Common.{arith}
use Rattle.tap_engine.proofs.Starting.{few_casts}
use Rattle.tap_engine.proofs.engine.Engine.next_cast.Goals as goal

pub overflow_cast-result : goal.overflow_cast-result
overflow_cast-result c = omega (arith, few_casts c.args.self.now c.requires, c.casts.ensures)

pub overflow_add-result : goal.overflow_add-result
overflow_add-result c = omega (arith, few_casts c.args.self.now c.requires, c.casts.ensures)
