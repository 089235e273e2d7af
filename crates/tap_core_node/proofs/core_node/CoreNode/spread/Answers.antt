use Rattle.std.proofs.Common.{◌≡◌, ◌==◌, ◌+◌, length, arith, sym, ap, ◌∙◌}
use Rattle.std.proofs.lemmas.Result.{on_ok_weaker}
use Rattle.tap_rule.specs.Covering.{answers_awaited}
use Rattle.tap_rule.specs.Node.{NodeState}
use Rattle.tap_node_common.specs.Sender.{sender_of}
use Rattle.tap_wire.specs.declared.frame.TellFields.{TellFields}
use Rattle.tap_core_node.specs.Requests.{asked_with}
use Rattle.tap_core_node.specs.State.{core_state}
use Rattle.tap_core_node.proofs.Spreads.{not_zero, spread_alone, spread_told, tells_spelled}
use Rattle.tap_core_node.proofs.core_node.CoreNode.spread.Goals as goal

pub returns-then-waiting-eq0 : goal.returns-then-waiting-eq0
returns-then-waiting-eq0 c =
    let node : NodeState = core_state c.args.self.now in
    let waits : c.answers_awaited-waiting.result ≡ answers_awaited c.args.first (length c.args.targets.now) =
    rw c.len.ensures at c.answers_awaited-waiting.ensures in
    on_ok_weaker c.answer.result
    (spread_alone node (asked_with c.args.request.now c.args.left.now) c.args.first c.args.offer c.args.targets.now c.args.left.now
    c.args.sent.now _ (ap (λ n. n == 0) (sym waits ∙ c.if-waiting-eq0.true)))
    (rw c.sender-sender.ensures.value at c.answer.ensures)

pub send_tells-requires : goal.send_tells-requires
send_tells-requires c =
    let number = c.in_ok-session.ensures.number in
    let fields : TellFields = record {
      joiner = c.args.request.now.joiner;
      prefix = c.args.request.now.prefix;
      level = c.args.request.now.level;
      session = c.in_ok-session.session;
      depth = c.args.request.now.depth + 1;
    } in
    rw c.sender-sender.ensures.value (tells_spelled (sender_of c.args.self.now.core.table)
    (rw c.sender-sender.ensures.value at c.sender-sender.ensures.name) fields c.args.left.now c.args.targets.now c.requires.joiner
    c.requires.prefix (omega (arith, number)) c.requires.slots c.requires.names c.requires.above c.requires.within)

pub returns : goal.returns
returns c =
    let node : NodeState = core_state c.args.self.now in
    let waits : c.answers_awaited-waiting.result ≡ answers_awaited c.args.first (length c.args.targets.now) =
    rw c.len.ensures at c.answers_awaited-waiting.ensures in
    let number = c.in_ok-session.ensures.number in
    spread_told node (asked_with c.args.request.now c.args.left.now) c.args.first c.args.offer c.args.targets.now c.args.left.now
    c.args.sent.now _ c.greet.new.sent _ (not_zero _ (λ zero. c.if-waiting-eq0.false (waits ∙ zero)))
    (rw waits at c.in_ok-session.ensures.after)
    (rw (c.sender-sender.ensures.value, number) at c.in_ok-greet.ensures)
    (rw (c.sender-sender.ensures.value, number) at c.in_ok-send_tells.ensures)
