use Rattle.tap_node_common.proofs.NumbersLeft.{hops-sound}
use Rattle.tap_node_common.proofs.ReactionSteps.{lay_step}
use Rattle.tap_leaving_node.specs.State.{leaving_state}
use Rattle.tap_leaving_node.proofs.leaving_node.LeavingNode.apply_lay.Goals as goal

pub take_lay-requires-clause-hops : goal.take_lay-requires-clause-hops
take_lay-requires-clause-hops c =
    rw (c.table-table.ensures.value, c.ties.ensures) (hops-sound (leaving_state c.args.self.now) c.requires.sound)

pub returns : goal.returns
returns c =
    let after = rw (c.table-table.ensures.value, c.ties.ensures) at c.in_ok-take_lay.ensures.after in
    let stamped = rw (c.table-table.ensures.value, c.ties.ensures) at c.in_ok-take_lay.ensures.stamped in
    let frames = rw (c.table-table.ensures.value, c.ties.ensures) at c.in_ok-take_lay.ensures.sent in
    lay_step (leaving_state c.args.self.now) c.args.lay.now c.take_lay.new.pointers c.take_lay.new.stamp c.args.sent.now c.take_lay.new.sent
    after stamped frames
