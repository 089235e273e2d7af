use Rattle.std.proofs.Common.{◌<◌, All, drop, length, replicate, subst, sym}
use Rattle.tap_host_line.specs.Room.{most_name_digits}
use Rattle.tap_host_line.proofs.Rooms.{few_printed}
use Rattle.tap_host_line.proofs.Hexes.{few_small}
use Rattle.tap_host_line.proofs.room.print_few_digits.Goals as goal

pub print_digits-requires-clause-below : goal.print_digits-requires-clause-below
print_digits-requires-clause-below c =
    let front = subst (All (λ digit. digit < 16)) (sym c.copy_from_slice.ensures.after) c.requires.digits in
    few_small c.copy_from_slice.new.self (length c.args.digits.now) most_name_digits front

pub returns : goal.returns
returns c =
    few_printed c.args.digits.now c.copy_from_slice.new.self (drop (length c.args.digits.now) (replicate most_name_digits 0))
    c.print_digits.new.text c.copy_from_slice.ensures.after c.print_digits.ensures
