use Rattle.std.proofs.Common.{◌+◌, ◌++◌, [], ◌∷◌, false, drop, arith, ap}
use Rattle.tap_table.specs.ByName.{targets_of}
use Rattle.tap_table.specs.Ties.{off_ties}
use Rattle.tap_table.proofs.OneAdded.{added, drop_got}
use Rattle.tap_table.specs.declared.tie.Tie.{Tie}
use Rattle.tap_table.proofs.off.push_links.Goals as goal

pub loop-at-preserved : goal.loop-at-preserved
loop-at-preserved c =
    let targets = targets_of c.args.set.now.links in
    let at = c.loop-at.at in
    let stamp = c.loop-at.stamp in
    let next = c.target_at.result in
    let word : Tie = record { to = next; version = stamp + 1; on = false } in
    let parts = ap (off_ties stamp) (drop_got targets at next c.target_at.ensures) in
    let words = added c.loop-at.words.items (word ∷ []) (off_ties (stamp + 1) (drop (at + 1) targets)) (off_ties stamp (drop at targets))
    (c.args.words.now.items ++ off_ties c.args.stamp.now targets) parts c.loop-at.invariant.1 in (
      omega (arith, c.next.ensures.after, c.loop-at.invariant.0),
      rw (c.in_ok-push.ensures.items, c.next.ensures.given, c.next.ensures.after) words,
    )
