use Rattle.std.proofs.Common.{◌+◌, ◌++◌, [], ◌∷◌, drop, ap, sym, ◌∙◌}
use Rattle.tap_link.specs.LinkSet.{least_settled}
use Rattle.tap_table.proofs.Found.{link_to}
use Rattle.tap_table.proofs.OneAdded.{added}
use Rattle.tap_multicast.specs.Slots.{target_at, told_among}
use Rattle.tap_multicast.specs.Targets.{tells}
use Rattle.tap_multicast.proofs.Links.{link_got}
use Rattle.tap_multicast.proofs.Picked.{passed_over, picked, picked-first}
use Rattle.tap_multicast.proofs.targets.push_slot.Goals as goal
use Rattle.tap_multicast.proofs.targets.push_slot.Goals.{then-tells+in_ok-push, else-tells}

pub loop-at-preserved : goal.loop-at-preserved
loop-at-preserved c =
    let links = c.args.set.now.links in
    let at = c.loop-at.at in
    let make = target_at (c.args.level + 1) in
    let passes = tells c.args.cover.now c.args.level (least_settled links) in
    let link = link_to c.target_at-to.result c.kind_at.result in
    let got = link_got links at c.target_at-to.result c.kind_at.result c.target_at-to.ensures c.kind_at.ensures in
    let test = c.tells.ensures ∙ ap (λ primary. tells c.args.cover.now c.args.level primary link) c.primary-primary.ensures.value in
    let done = c.loop-at.targets.items in
    let whole = c.args.targets.now.items ++ told_among c.args.cover.now c.args.level links in
    elim c.if-tells.branch [
      | then-tells+in_ok-push w ↦
          let parts = picked-first make passes links at link got (sym test ∙ w.if-tells.true) in
          rw (w.targets-is, w.in_ok-push.ensures.items)
          (added done (make link ∷ []) (picked make passes (drop (at + 1) links)) (picked make passes (drop at links)) whole parts
          c.loop-at.invariant)
      | else-tells w ↦
          let parts = passed_over make passes links at link got (sym test ∙ w.if-tells.false) in
          rw w.targets-is (ap (λ l. done ++ l) (sym parts) ∙ c.loop-at.invariant)
    ]
