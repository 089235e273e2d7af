use Rattle.std.proofs.Common.{◌≡◌, ◌≢◌, ◌∙◌, Result, Ok, Err, sym, ap}
use Rattle.tap_wire.specs.declared.fault.WireFault.{WireFault}
use Rattle.tap_wire.specs.declared.fault.WireFault.TheVariants as wire
use Rattle.tap_wire.specs.declared.frame.Frame.{Frame}
use Rattle.tap_rule.specs.Node.{settings_of}
use Rattle.tap_node.specs.declared.fault.NodeFault.{NodeFault}
use Rattle.tap_node.specs.declared.fault.NodeFault.TheVariants as fault
use Rattle.tap_node.specs.declared.turn.Turn.{Turn}
use Rattle.tap_node.specs.Node.{NodeValue}
use Rattle.tap_node.proofs.Reading.{unread, wanting_cause, wants_read, wants_taken}
use Rattle.tap_node.proofs.node.Node.take.Goals as goal

pub returns-in-Ok-clause-memory : goal.returns-in-Ok-clause-memory
returns-in-Ok-clause-memory c refused =
    let same : settings_of c.args.self.now.state ≡ c.self.inside.sender.settings =
    ap (λ (n : NodeValue). settings_of n.state) (sym c.self.view_is) ∙ c.self.invariant.settings in
    let found : c.decode.result ≢ Err wire.NoMemory = λ e.
    let wrong : ◌≡◌ {A = Result Frame WireFault} (Ok c.in-Ok.frame) (Err wire.NoMemory) = sym c.in-Ok.is ∙ e in cc in
    wants_taken c.args.self.now c.args.bytes.now (sym c.is_ended.ensures ∙ c.if-is_ended.false) c.in-Ok.frame
    (rw same (sym (c.decode.ensures.exact found) ∙ c.in-Ok.is)) (c.take_frame.ensures.memory refused)

pub returns-in-Err-clause-memory : goal.returns-in-Err-clause-memory
returns-in-Err-clause-memory c refused =
    let same : settings_of c.args.self.now.state ≡ c.self.inside.sender.settings =
    ap (λ (n : NodeValue). settings_of n.state) (sym c.self.view_is) ∙ c.self.invariant.settings in
    let both : ◌≡◌ {A = Result Turn NodeFault} (Err c.from.result) (Err fault.NoMemory) = sym c.refuse.ensures.refusal ∙ refused in
    let wants : c.from.result ≡ fault.NoMemory = cc in
    let cause : c.in-Err.cause ≡ wire.NoMemory = wanting_cause c.in-Err.cause c.from.result c.from.ensures wants in
    wants_read c.args.self.now c.args.bytes.now (sym c.is_ended.ensures ∙ c.if-is_ended.false)
    (rw same (c.decode.ensures.memory (c.in-Err.is ∙ ap Err cause))) (rw same (c.decode.ensures.letters (c.in-Err.is ∙ ap Err cause)))

pub returns-in-Err-clause-outcome : goal.returns-in-Err-clause-outcome
returns-in-Err-clause-outcome c =
    let same : settings_of c.args.self.now.state ≡ c.self.inside.sender.settings =
    ap (λ (n : NodeValue). settings_of n.state) (sym c.self.view_is) ∙ c.self.invariant.settings in
    let known : c.in-Err.cause ≢ wire.NoMemory → c.decode.result ≢ Err wire.NoMemory = λ other e.
    let both : ◌≡◌ {A = Result Frame WireFault} (Err c.in-Err.cause) (Err wire.NoMemory) = sym c.in-Err.is ∙ e in
    let wants : c.in-Err.cause ≡ wire.NoMemory = cc in other wants in
    unread c.args.self.now c.args.bytes.now c.in-Err.cause c.from.result c.refuse.result c.refuse.new.self
    (sym c.is_ended.ensures ∙ c.if-is_ended.false) c.from.ensures
    (λ other. rw same (sym (c.decode.ensures.exact (known other)) ∙ c.in-Err.is)) c.refuse.ensures.refusal c.refuse.ensures.outcome
