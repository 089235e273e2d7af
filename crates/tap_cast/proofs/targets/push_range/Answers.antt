use Rattle.std.proofs.Common.{◌+◌, ◌++◌, map, ap, ◌∙◌}
use Rattle.tap_link.specs.LinkSet.{least_settled}
use Rattle.tap_cast.specs.Targets.{primary_or_pins, slot_targets, told_at}
use Rattle.tap_table.proofs.Stepping.{from_digit, in_range, in_range-first, slot_of_range}
use Rattle.tap_table.proofs.OneAdded.{added}
use Rattle.tap_cast.proofs.targets.push_range.Goals as goal

pub loop-digit-preserved : goal.loop-digit-preserved
loop-digit-preserved c =
    let of_slot = slot_targets c.args.table.now in
    let range = c.args.range in
    let digit = c.loop-digit.digit in
    let parts = in_range-first of_slot range digit c.loop-digit-test.true in
    let done = c.loop-digit.targets.items in
    let pushed = c.in_ok-push_slot.ensures
    ∙ ap (λ s. done ++ map (told_at (range.level + 1)) (primary_or_pins (least_settled s.links) s.links)) c.slot.ensures in
    rw pushed (added done (of_slot (slot_of_range range digit)) (in_range of_slot (from_digit range (digit + 1)))
    (in_range of_slot (from_digit range digit)) (c.args.targets.now.items ++ in_range of_slot range) parts c.loop-digit.invariant)
