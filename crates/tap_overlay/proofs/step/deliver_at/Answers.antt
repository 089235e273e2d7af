use Rattle.std.proofs.Common.{sym, ◌∙◌}
use Rattle.tap_node.specs.Node.{NodeValue}
use Rattle.tap_node.specs.Outcome.{answer_lent, at_frame}
use Rattle.tap_overlay.specs.Step.{answer_given}
use Rattle.tap_overlay.proofs.Found.{found_same}
use Rattle.tap_overlay.proofs.Delivered.{heeded, none_there}
use Rattle.tap_overlay.proofs.Stepped.{with_node, with_room}
use Rattle.tap_overlay.proofs.step.deliver_at.Goals as goal

pub unreachable-requires : goal.unreachable-requires
unreachable-requires c =
    none_there c.args.frame.now c.args.nodes.now.entries c.requires.may
    (sym (c.in_default.ensures.value ∙ found_same c.args.nodes.now.entries c.args.frame.now.to))

pub take_read-requires-clause-room : goal.take_read-requires-clause-room
take_read-requires-clause-room c =
    (heeded c.args.frame.now c.args.nodes.now.entries c.in-Some.node.now c.requires.may
    (sym (c.in-Some.ensures.value ∙ found_same c.args.nodes.now.entries c.args.frame.now.to))).room

pub take_read-requires-clause-runs : goal.take_read-requires-clause-runs
take_read-requires-clause-runs c =
    (heeded c.args.frame.now c.args.nodes.now.entries c.in-Some.node.now c.requires.may
    (sym (c.in-Some.ensures.value ∙ found_same c.args.nodes.now.entries c.args.frame.now.to))).runs

pub take_read-requires-clause-frame : goal.take_read-requires-clause-frame
take_read-requires-clause-frame c =
    (heeded c.args.frame.now c.args.nodes.now.entries c.in-Some.node.now c.requires.may
    (sym (c.in-Some.ensures.value ∙ found_same c.args.nodes.now.entries c.args.frame.now.to))).is_frame

pub take_read-requires-clause-own : goal.take_read-requires-clause-own
take_read-requires-clause-own c =
    (heeded c.args.frame.now c.args.nodes.now.entries c.in-Some.node.now c.requires.may
    (sym (c.in-Some.ensures.value ∙ found_same c.args.nodes.now.entries c.args.frame.now.to))).own

pub take_read-requires-clause-fits : goal.take_read-requires-clause-fits
take_read-requires-clause-fits c =
    (heeded c.args.frame.now c.args.nodes.now.entries c.in-Some.node.now c.requires.may
    (sym (c.in-Some.ensures.value ∙ found_same c.args.nodes.now.entries c.args.frame.now.to))).fits

pub returns : goal.returns
returns c =
    let after = c.take_read.new.self in
    let node = c.in-Some.node.now in
    let frame = c.args.frame.now in
    let answer = answer_lent c.take_read.result c.take_read.new.turn in
    let room = (heeded frame c.args.nodes.now.entries node c.requires.may
    (sym (c.in-Some.ensures.value ∙ found_same c.args.nodes.now.entries frame.to))).room in
    with_node (λ (n : NodeValue). at_frame n frame) c.args.nodes.now (c.get_mut.follows.lender after) frame.to node after
    (answer_given answer) (sym c.in-Some.ensures.value) (c.get_mut.follows.holds after)
    (with_room (at_frame node frame) node after answer room c.take_read.ensures)
