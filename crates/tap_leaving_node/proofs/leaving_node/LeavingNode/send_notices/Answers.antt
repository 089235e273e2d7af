use Rattle.std.proofs.Common.{map}
use Rattle.tap_rule.specs.Leaving.{leave_for}
use Rattle.tap_leaving_node.specs.State.{leaving_state}
use Rattle.tap_leaving_node.proofs.Ends.{notices_step}
use Rattle.tap_leaving_node.proofs.leaving_node.LeavingNode.send_notices.Goals as goal

pub returns : goal.returns
returns c =
    let self = c.args.self.now in
    let after = rw (c.table-table.ensures.value, c.ties.ensures) at c.in_ok-reconcile.ensures.after in
    let stamped = rw (c.table-table.ensures.value, c.ties.ensures) at c.in_ok-reconcile.ensures.stamped in
    let frames = rw (c.table-table.ensures.value, c.ties.ensures) at c.in_ok-reconcile.ensures.sent in
    notices_step (leaving_state self) (map leave_for self.leaving.notices) c.reconcile.new.pointers c.reconcile.new.stamp c.args.sent.now
    c.send_leaves.new.sent c.reconcile.new.sent c.in_ok-send_leaves.ensures after stamped frames
