use Rattle.std.proofs.Common.{◌+◌, true, arith, refl}
use Rattle.std.specs.Option.{is_none}
use Rattle.tap_table.specs.Table.{kind_in}
use Rattle.tap_rule.specs.Node.{NodeState, settings_of}
use Rattle.tap_node_common.proofs.Ending.{told_named}
use Rattle.tap_node_common.proofs.NumbersLeft.{numbers_left}
use Rattle.tap_core_node.specs.Requests.{asked_with}
use Rattle.tap_core_node.specs.State.{core_state}
use Rattle.tap_core_node.proofs.Pins.{pinned_and_covered}
use Rattle.tap_core_node.proofs.core_node.CoreNode.pin_and_cover.Goals as goal

pub send_word-requires-clause-to : goal.send_word-requires-clause-to
send_word-requires-clause-to c =
    let node : NodeState = core_state c.args.self.now in
    let joiner = c.args.request.now.joiner in
    rw (c.sender.ensures.value, c.in_ok-word.ensures.after, c.in_ok-word.ensures.answer, c.ties_mut.ensures.value)
    (told_named (settings_of node) (is_none (kind_in node.ties.table joiner)) joiner (node.stamp + 1) true c.requires.name)

pub cover-requires-clause-fits : goal.cover-requires-clause-fits
cover-requires-clause-fits c = rw (c.in_ok-word.ensures.after, c.ties_mut.ensures.value) c.requires.fits

pub cover-requires-clause-slots : goal.cover-requires-clause-slots
cover-requires-clause-slots c = rw (c.in_ok-word.ensures.after, c.ties_mut.ensures.value) c.requires.slots

pub cover-requires-clause-few : goal.cover-requires-clause-few
cover-requires-clause-few c = rw (c.in_ok-word.ensures.after, c.ties_mut.ensures.value) c.requires.few

pub cover-requires-clause-parent : goal.cover-requires-clause-parent
cover-requires-clause-parent c = rw (c.in_ok-word.ensures.after, c.ties_mut.ensures.value) c.requires.parent

pub cover-requires-clause-room : goal.cover-requires-clause-room
cover-requires-clause-room c = let left = numbers_left (core_state c.args.self.now) c.requires.room in omega (arith, left.sessions)

pub returns : goal.returns
returns c =
    let node : NodeState = core_state c.args.self.now in
    pinned_and_covered node c.requires.sound refl c.args.sent.now (asked_with c.args.request.now c.args.watch.now) c.requires.name
    c.requires.other _ _ _ c.send_word.new.sent _ (rw c.ties_mut.ensures.value at c.in_ok-word.ensures.after)
    (rw c.ties_mut.ensures.value at c.in_ok-word.ensures.stamped)
    (rw (c.sender.ensures.value, c.in_ok-word.ensures.after, c.in_ok-word.ensures.answer, c.ties_mut.ensures.value)
    at c.in_ok-send_word.ensures)
    c.in_ok-cover.ensures
