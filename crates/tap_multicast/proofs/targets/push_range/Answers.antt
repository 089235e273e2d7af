use Rattle.std.proofs.Common.{◌+◌, ◌++◌, append-nil, ap, sym, ◌∙◌}
use Rattle.tap_table.proofs.Stepping.{from_digit, in_range, in_range-first, slot_of_range}
use Rattle.tap_table.proofs.OneAdded.{added}
use Rattle.tap_multicast.specs.Slots.{told_among, told_in}
use Rattle.tap_multicast.proofs.Unlinked.{in_range-unlinked}
use Rattle.tap_multicast.proofs.targets.push_range.Goals as goal

pub returns-then-not-may_have_links_from : goal.returns-then-not-may_have_links_from
returns-then-not-may_have_links_from c =
    let t = c.args.table.now in
    let cover = c.args.cover.now in
    let range = c.args.range in
    let none = c.may_have_links_from.ensures c.if-not-may_have_links_from.true in
    let unlinked = in_range-unlinked t (told_in t cover) (λ slot empty. ap (told_among cover slot.level) empty) range none in
    sym (ap (λ l. c.args.targets.now.items ++ l) unlinked ∙ append-nil c.args.targets.now.items)

pub loop-digit-preserved : goal.loop-digit-preserved
loop-digit-preserved c =
    let of_slot = told_in c.args.table.now c.args.cover.now in
    let range = c.args.range in
    let digit = c.loop-digit.digit in
    let done = c.loop-digit.targets.items in
    let pushed = c.in_ok-push_slot.ensures
    ∙ ap (λ s. done ++ told_among c.args.cover.now range.level s.links) c.slot.ensures in
    rw pushed (added done (of_slot (slot_of_range range digit)) (in_range of_slot (from_digit range (digit + 1)))
    (in_range of_slot (from_digit range digit)) (c.args.targets.now.items ++ in_range of_slot range)
    (in_range-first of_slot range digit c.loop-digit-test.true) c.loop-digit.invariant)
