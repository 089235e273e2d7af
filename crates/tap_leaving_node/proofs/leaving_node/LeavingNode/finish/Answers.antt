use Rattle.std.proofs.Common.{arith}
use Rattle.tap_table.proofs.Targets.{few_by_name}
use Rattle.tap_node_common.proofs.Ending.{ended_named, holders_named}
use Rattle.tap_node_common.proofs.Lays.{lays-cleared}
use Rattle.tap_leaving_node.specs.State.{leaving_state}
use Rattle.tap_leaving_node.proofs.Ends.{finished_step}
use Rattle.tap_leaving_node.proofs.leaving_node.LeavingNode.finish.Goals as goal

pub send_words-requires-clause-to : goal.send_words-requires-clause-to
send_words-requires-clause-to c =
    rw (c.in_ok-words.ensures.links, c.sender-sender.ensures.value)
    (ended_named c.args.self.leaving.ties.table c.args.self.parts.stamp c.sender-sender.ensures.valid.table)

pub send_each-requires-clause-to : goal.send_each-requires-clause-to
send_each-requires-clause-to c =
    rw (c.in_ok-words.ensures.gone, c.sender-sender.ensures.value)
    (holders_named c.args.self.leaving.ties c.sender-sender.ensures.valid)

pub clear-requires : goal.clear-requires
clear-requires c =
    let few = few_by_name c.args.self.leaving.ties.table c.sender-sender.ensures.valid.table in
    record { numbers = omega (arith, few, c.in_ok-words.ensures.stamped, c.requires.numbers) }

pub send_lays-requires-clause-lays : goal.send_lays-requires-clause-lays
send_lays-requires-clause-lays c =
    rw (c.in_ok-lays.ensures.answer, c.sender-sender.ensures.value)
    (lays-cleared c.args.self.leaving.ties.table.settings c.finish.new.stamp c.args.self.parts.pointers c.requires.pairs c.requires.hops)

pub returns : goal.returns
returns c =
    let words = rw (c.in_ok-words.ensures.links, c.sender-sender.ensures.value) at c.in_ok-send_words.ensures in
    let gones = rw (c.in_ok-words.ensures.gone, c.sender-sender.ensures.value) at c.in_ok-send_each.ensures in
    let cleared = rw (c.in_ok-lays.ensures.answer, c.in_ok-words.ensures.stamped) at c.in_ok-send_lays.ensures in
    let lays = rw c.sender-sender.ensures.value at cleared in
    finished_step (leaving_state c.args.self) c.args.sent.now c.send_words.new.sent c.send_each.new.sent c.send_lays.new.sent words
    gones lays
