use Rattle.std.proofs.Common.{sym, append-nil, refl}
use Rattle.tap_node.proofs.Taking.{answer_ceased, cast_ceased, link_ceased, tell_ceased}
use Rattle.tap_node.proofs.state.take_ceased.Goals as goal

pub returns-in_ok-send-in-Tell : goal.returns-in_ok-send-in-Tell
returns-in_ok-send-in-Tell c =
    let told = c.in-Tell in
    tell_ceased c.args.sender.now.settings c.args.sender.now.name c.args.sessions.now c.args.sessions.now c.args.frame.now.from
    c.args.frame.now.body c.args.sent.now c.send.new.sent told.joiner told.prefix told.level told.session told.depth told.watch told.is
    refl c.in_ok-send-in-Tell.ensures

pub returns-in_ok-send-in-Link : goal.returns-in_ok-send-in-Link
returns-in_ok-send-in-Link c =
    link_ceased c.args.sender.now.settings c.args.sender.now.name c.args.sessions.now c.args.sessions.now c.args.frame.now.from
    c.args.frame.now.body c.args.sent.now c.send-then-on.new.sent c.in-Link.version c.in-Link.on c.in-Link.is refl
    (rw c.if-on.true c.in_ok-send-in-Link.ensures)

pub returns-else-on : goal.returns-else-on
returns-else-on c =
    link_ceased c.args.sender.now.settings c.args.sender.now.name c.args.sessions.now c.args.sessions.now c.args.frame.now.from
    c.args.frame.now.body c.args.sent.now c.args.sent.now c.in-Link.version c.in-Link.on c.in-Link.is refl
    (rw c.if-on.false (sym (append-nil c.args.sent.now)))

pub returns-in_ok-send-in-Cast : goal.returns-in_ok-send-in-Cast
returns-in_ok-send-in-Cast c =
    let cast = c.in-Cast in
    cast_ceased c.args.sender.now.settings c.args.sender.now.name c.args.sessions.now c.args.sessions.now c.args.frame.now.from
    c.args.frame.now.body c.args.sent.now c.send-in-Cast.new.sent cast.cast cast.level cast.session cast.depth cast.word cast.is
    refl c.in_ok-send-in-Cast.ensures

pub returns-in_ok-take_answer-in-Heard : goal.returns-in_ok-take_answer-in-Heard
returns-in_ok-take_answer-in-Heard c =
    answer_ceased c.args.sender.now.settings c.args.sender.now.name c.args.sessions.now c.take_answer.new.sessions c.args.frame.now.from
    c.args.frame.now.body c.args.sent.now c.take_answer.new.sent c.in-Heard.session c.in-Heard.is c.take_answer.ensures.after
    c.in_ok-take_answer-in-Heard.ensures.sent
