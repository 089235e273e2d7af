use Rattle.std.proofs.Common.{◌+◌, ◌*◌, ◌<◌, ◌++◌, arith, ap, sym, ◌∙◌}
use Rattle.tap_table.specs.ByName.{by_name}
use Rattle.tap_table.proofs.Stepping.{in_range, in_ranges, in_ranges-all, in_ranges-first}
use Rattle.tap_table.proofs.OneAdded.{added}
use Rattle.tap_multicast.specs.Offer.{is_offered, offered_as}
use Rattle.tap_multicast.specs.Slots.{offered_in}
use Rattle.tap_multicast.proofs.Offering.{offer_by_slot}
use Rattle.tap_multicast.proofs.Picked.{picked}
use Rattle.tap_multicast.proofs.offer.offer.Goals as goal

pub loop-i-init : goal.loop-i-init
loop-i-init c =
    let t = c.args.table.now in
    let watch = c.args.watch.now in
    let joiner = c.args.cover.now.joiner in
    rw c.new-offer.ensures.items
    (in_ranges-all (offered_in t watch joiner) t.settings t.owner ∙ offer_by_slot t c.settings.ensures.valid watch joiner)

pub loop-i-preserved : goal.loop-i-preserved
loop-i-preserved c =
    let t = c.args.table.now in
    let watch = c.args.watch.now in
    let joiner = c.args.cover.now.joiner in
    let of_slot = offered_in t watch joiner in
    let i = c.loop-i.i in
    let digits = c.digits.ensures.value ∙ ap (λ p. p.digits) c.settings.ensures.value in
    let inside : i < 2 * t.settings.digits = omega (arith, c.loop-i-test.true, digits) in
    let range = c.range_by_name.result in
    let rest = in_ranges of_slot t.settings t.owner (i + 1) in
    let parts = in_ranges-first of_slot t.settings t.owner i inside
    ∙ ap (λ r. in_range of_slot r ++ rest) (sym c.range_by_name.ensures.value) in
    rw c.in_ok-push_range.ensures
    (added c.loop-i.offer.items (in_range of_slot range) rest (in_ranges of_slot t.settings t.owner i)
    (picked offered_as (is_offered t watch joiner) (by_name t)) parts c.loop-i.invariant)
