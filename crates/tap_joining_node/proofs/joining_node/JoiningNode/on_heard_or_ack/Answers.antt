use Rattle.tap_session.specs.Sessions.{answer_to, answered_at, session_of}
use Rattle.tap_rule.specs.Answers.{answer_sends}
use Rattle.tap_rule.specs.Event.News.{Nothing as NothingNews}
use Rattle.tap_node_common.proofs.ReactionSteps.{messages_step}
use Rattle.tap_joining_node.specs.State.{joining_state}
use Rattle.tap_joining_node.proofs.joining_node.JoiningNode.on_heard_or_ack.Goals as goal

pub returns : goal.returns
returns c =
    let node = joining_state c.args.self.now in
    let sessions = c.args.self.now.sessions in
    let frames = rw c.sender-sender.ensures.value at c.in_ok-take_answer.ensures.sent in
    rw c.in_ok-take_answer.ensures.after
    (messages_step node (record node { sessions = answered_at sessions c.args.session })
    (answer_sends (answer_to (session_of sessions.sessions c.args.session))) NothingNews c.args.sent.now c.take_answer.new.sent frames)
