use Rattle.std.proofs.Common.{sym}
use Rattle.tap_overlay.proofs.AtRest.{made_more}
use Rattle.tap_overlay.proofs.overlay.members_at_rest.Goals as goal

pub member-requires-clause-member : goal.member-requires-clause-member
member-requires-clause-member c =
    let within = rw c.as_slice-member-items.ensures at c.loop-member-test.true in
    let item = rw c.as_slice-member-items.ensures at c.member-item.is in
    (c.loop-member.member-index, within, sym item)

pub loop-member-preserved : goal.loop-member-preserved
loop-member-preserved c =
    let within = rw c.as_slice-member-items.ensures at c.loop-member-test.true in
    let item = rw c.as_slice-member-items.ensures at c.member-item.is in
    let call = c.in_ok-insert_sorted.ensures in
    record {
      made = made_more c.args.settings.now c.args.members.now c.loop-member.member-index c.member-item.result c.in_ok-node.node
          c.loop-member.nodes c.insert_sorted.new.self within item c.in_ok-node.ensures call.updates c.loop-member.invariant.made;
      ascending = call.sorted c.loop-member.invariant.ascending;
    }
