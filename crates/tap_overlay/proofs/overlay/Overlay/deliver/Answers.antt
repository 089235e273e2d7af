use Rattle.tap_wire.specs.Reading.{frame_of}
use Rattle.tap_node.specs.Node.{NodeValue}
use Rattle.tap_node.specs.Outcome.{answer_lent, at_frame}
use Rattle.tap_overlay.specs.Step.{MayDeliver, answer_given}
use Rattle.tap_overlay.proofs.Delivered.{is_read, may_heed, of_read}
use Rattle.tap_overlay.proofs.Stepped.{steps_named}
use Rattle.tap_overlay.proofs.overlay.Overlay.deliver.Goals as goal

pub decode_into-requires : goal.decode_into-requires
decode_into-requires c =
    let may = rw (← c.self.view_is) at c.requires.may in
    is_read (MayDeliver c.self.inside.nodes.entries) (frame_of c.self.inside.settings c.args.bytes.now) may

pub deliver_at-requires-clause-may : goal.deliver_at-requires-clause-may
deliver_at-requires-clause-may c =
    let p = c.self.inside.settings in
    let frame = c.decode_into.new.frame in
    let may = rw (← c.self.view_is) at c.requires.may in
    may_heed p c.self.inside.nodes.entries frame c.self.invariant.own c.in_ok-decode_into.ensures.found.0
    (of_read (MayDeliver c.self.inside.nodes.entries) (frame_of p c.args.bytes.now) frame may c.in_ok-decode_into.ensures.exact)

pub invariant_of-self-in_err-deliver_at : goal.invariant_of-self-in_err-deliver_at
invariant_of-self-in_err-deliver_at c =
    steps_named c.self.inside.settings (λ (n : NodeValue). at_frame n c.decode_into.new.frame) c.self.inside.nodes.entries
    c.deliver_at.new.nodes.entries c.decode_into.new.frame.to (answer_given (answer_lent c.deliver_at.result c.deliver_at.new.turn))
    c.self.invariant c.deliver_at.ensures

pub invariant_of-self-2 : goal.invariant_of-self-2
invariant_of-self-2 c =
    steps_named c.self.inside.settings (λ (n : NodeValue). at_frame n c.decode_into.new.frame) c.self.inside.nodes.entries
    c.deliver_at.new.nodes.entries c.decode_into.new.frame.to (answer_given (answer_lent c.deliver_at.result c.deliver_at.new.turn))
    c.self.invariant c.deliver_at.ensures
