use Rattle.std.proofs.Common.{◌+◌, ◌<◌, ◌++◌, [], ◌∷◌, length, drop, map, arith, ap, sym, ◌∙◌}
use Rattle.tap_cast.specs.Targets.{pins_of, told_at}
use Rattle.tap_cast.proofs.Pins.{other_first, pin_first}
use Rattle.tap_table.proofs.OneAdded.{added}
use Rattle.tap_cast.proofs.targets.push_pins.Goals as goal
use Rattle.tap_cast.proofs.targets.push_pins.Goals.{then-is_pin+in_ok-push, else-is_pin}

pub loop-at-preserved : goal.loop-at-preserved
loop-at-preserved c =
    let links = c.args.set.now.links in
    let at = c.loop-at.at in
    let level = c.args.level in
    let done = c.loop-at.targets.items in
    let whole = c.args.targets.now.items ++ map (told_at level) (pins_of links) in
    let rest = map (told_at level) (pins_of (drop (at + 1) links)) in
    let left = map (told_at level) (pins_of (drop at links)) in
    let inside : at < length links = omega (arith, c.loop-at-test.true, c.len-at-end.ensures.count) in
    elim c.if-is_pin.branch [
      | then-is_pin+in_ok-push w ↦
          let pinned = sym c.is_pin.ensures ∙ w.if-is_pin.true in
          let parts = pin_first links at inside c.kind_at.result w.target_at.result c.kind_at.ensures w.target_at.ensures pinned in
          rw (w.targets-is, w.in_ok-push.ensures.items)
          (added done (told_at level w.target_at.result ∷ []) rest left whole (ap (map (told_at level)) parts) c.loop-at.invariant)
      | else-is_pin w ↦
          let other = sym c.is_pin.ensures ∙ w.if-is_pin.false in
          let parts = other_first links at inside c.kind_at.result c.kind_at.ensures other in
          rw w.targets-is (ap (λ names. done ++ map (told_at level) names) (sym parts) ∙ c.loop-at.invariant)
    ]
