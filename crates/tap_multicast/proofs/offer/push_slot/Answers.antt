use Rattle.std.proofs.Common.{◌+◌, ◌++◌, [], ◌∷◌, drop, ap, sym, ◌∙◌}
use Rattle.tap_table.proofs.Found.{link_to}
use Rattle.tap_table.proofs.OneAdded.{added}
use Rattle.tap_multicast.specs.Offer.{offered_as, offers}
use Rattle.tap_multicast.proofs.Links.{link_got}
use Rattle.tap_multicast.proofs.Picked.{passed_over, picked, picked-first}
use Rattle.tap_multicast.proofs.offer.push_slot.Goals as goal
use Rattle.tap_multicast.proofs.offer.push_slot.Goals.{then-offers+in_ok-push, else-offers}

pub loop-at-preserved : goal.loop-at-preserved
loop-at-preserved c =
    let links = c.args.set.now.links in
    let at = c.loop-at.at in
    let passes = offers c.args.joiner c.is_watched-answered.result c.primary-primary.result in
    let link = link_to c.target_at-name.result c.kind_at-kind.result in
    let got = link_got links at c.target_at-name.result c.kind_at-kind.result c.target_at-name.ensures c.kind_at-kind.ensures in
    let done = c.loop-at.offer.items in
    let whole = c.args.offer.now.items ++ picked offered_as passes links in
    elim c.if-offers.branch [
      | then-offers+in_ok-push w ↦
          let parts = picked-first offered_as passes links at link got (sym c.offers.ensures ∙ w.if-offers.true) in
          rw (w.offer-is, w.in_ok-push.ensures.items, w.is_settled.ensures)
          (added done (offered_as link ∷ []) (picked offered_as passes (drop (at + 1) links)) (picked offered_as passes (drop at links))
          whole parts c.loop-at.invariant)
      | else-offers w ↦
          let parts = passed_over offered_as passes links at link got (sym c.offers.ensures ∙ w.if-offers.false) in
          rw w.offer-is (ap (λ l. done ++ l) (sym parts) ∙ c.loop-at.invariant)
    ]
