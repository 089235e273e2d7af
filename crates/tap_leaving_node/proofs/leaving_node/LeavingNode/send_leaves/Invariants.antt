use Rattle.std.proofs.Common.{◌≡◌, ◌++◌, drop, map}
use Rattle.tap_rule.specs.Leaving.{leave_for}
use Rattle.tap_node_common.specs.Sender.{message_bytes, sender_of}
use Rattle.tap_leaving_node.proofs.leaving_node.LeavingNode.send_leaves.Given as goal

abbrev pub invariant-loop-i : goal.invariant-loop-i
invariant-loop-i l =
    let sender = sender_of l.self.leaving.ties.table in
    let notices = l.self.leaving.notices in
    l.sent ++ message_bytes sender (map leave_for (drop l.i notices)) ≡ l.fn.sent ++ message_bytes sender (map leave_for notices)
