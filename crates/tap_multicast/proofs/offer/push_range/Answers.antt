use Rattle.std.proofs.Common.{◌+◌, ◌++◌, ◌&&◌, append-nil, ap, is_some, sym, ◌∙◌}
use Rattle.tap_link.specs.LinkSet.{least_settled}
use Rattle.tap_table.proofs.Stepping.{from_digit, in_range, in_range-first, slot_of_range}
use Rattle.tap_table.proofs.OneAdded.{added}
use Rattle.tap_multicast.specs.Offer.{has_slot}
use Rattle.tap_multicast.specs.Slots.{offered_among, offered_in}
use Rattle.tap_multicast.proofs.Unlinked.{in_range-unlinked}
use Rattle.tap_multicast.proofs.offer.push_range.Goals as goal

pub returns-then-not-may_have_links_from : goal.returns-then-not-may_have_links_from
returns-then-not-may_have_links_from c =
    let t = c.args.table.now in
    let watch = c.args.watch.now in
    let joiner = c.args.joiner in
    let range = c.args.range in
    let none = c.may_have_links_from.ensures c.if-not-may_have_links_from.true in
    let unlinked = in_range-unlinked t (offered_in t watch joiner)
    (λ slot empty. ap (λ links. offered_among joiner (is_some (least_settled links) && has_slot watch slot) links) empty) range none in
    sym (ap (λ l. c.args.offer.now.items ++ l) unlinked ∙ append-nil c.args.offer.now.items)

pub loop-digit-preserved : goal.loop-digit-preserved
loop-digit-preserved c =
    let watch = c.args.watch.now in
    let joiner = c.args.joiner in
    let of_slot = offered_in c.args.table.now watch joiner in
    let range = c.args.range in
    let digit = c.loop-digit.digit in
    let slot = slot_of_range range digit in
    let done = c.loop-digit.offer.items in
    let pushed = c.in_ok-push_slot.ensures
    ∙ ap (λ s. done ++ offered_among joiner (is_some (least_settled s.links) && has_slot watch slot) s.links) c.slot.ensures in
    rw pushed (added done (of_slot slot) (in_range of_slot (from_digit range (digit + 1)))
    (in_range of_slot (from_digit range digit)) (c.args.offer.now.items ++ in_range of_slot range)
    (in_range-first of_slot range digit c.loop-digit-test.true) c.loop-digit.invariant)
