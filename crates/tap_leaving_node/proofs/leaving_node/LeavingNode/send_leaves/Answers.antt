use Rattle.std.proofs.Common.{◌++◌, arith, map}
use Rattle.tap_rule.specs.Leaving.{leave_for}
use Rattle.tap_node_common.specs.Sender.{message_bytes, sender_of}
use Rattle.tap_leaving_node.proofs.Ends.{all_notices_sent, notice_sent}
use Rattle.tap_leaving_node.proofs.NoticeNamed.{notice_named}
use Rattle.tap_leaving_node.proofs.leaving_node.LeavingNode.send_leaves.Goals as goal

pub send-requires-clause-to : goal.send-requires-clause-to
send-requires-clause-to c =
    let leaving = c.args.self.now.leaving in
    rw c.sender-sender.ensures.value
    (notice_named leaving.ties c.sender-sender.ensures.valid leaving.notices c.loop-i.i c.notice_at-notice.result c.requires.notices
    c.notice_at-notice.ensures).0

pub send-requires-clause-body : goal.send-requires-clause-body
send-requires-clause-body c =
    let leaving = c.args.self.now.leaving in
    rw c.sender-sender.ensures.value
    (notice_named leaving.ties c.sender-sender.ensures.valid leaving.notices c.loop-i.i c.notice_at-notice.result c.requires.notices
    c.notice_at-notice.ensures).1

pub loop-i-preserved : goal.loop-i-preserved
loop-i-preserved c =
    let leaving = c.args.self.now.leaving in
    let sender = sender_of leaving.ties.table in
    let frames = rw c.sender-sender.ensures.value at c.in_ok-send.ensures in
    notice_sent sender leaving.notices c.loop-i.sent (c.args.sent.now ++ message_bytes sender (map leave_for leaving.notices)) c.loop-i.i
    c.notice_at-notice.result c.send.new.sent c.notice_at-notice.ensures frames c.loop-i.invariant

pub returns : goal.returns
returns c =
    let leaving = c.args.self.now.leaving in
    let sender = sender_of leaving.ties.table in
    all_notices_sent sender leaving.notices c.loop-i.sent (c.args.sent.now ++ message_bytes sender (map leave_for leaving.notices))
    c.loop-i.i (omega arith) c.loop-i.invariant
