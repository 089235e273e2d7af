use Rattle.std.proofs.Common.{rules}
use Rattle.tap_carry.proofs.numbers.next_number.Goals as goal

pub returns-clause-after : goal.returns-clause-after
returns-clause-after c = rw (← c.make_first_room.ensures) (search rules)
