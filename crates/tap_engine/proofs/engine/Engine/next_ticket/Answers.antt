use Rattle.std.proofs.Common.{arith}
use Rattle.tap_engine.proofs.Starting.{few_tickets}
use Rattle.tap_engine.proofs.engine.Engine.next_ticket.Goals as goal

pub overflow_cast-result : goal.overflow_cast-result
overflow_cast-result c = omega (arith, few_tickets c.args.self.now c.requires, c.tickets.ensures)

pub overflow_add-result : goal.overflow_add-result
overflow_add-result c = omega (arith, few_tickets c.args.self.now c.requires, c.tickets.ensures)
