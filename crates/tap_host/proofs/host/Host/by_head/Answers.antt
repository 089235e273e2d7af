use Rattle.std.proofs.Common.{◌≡◌, ◌∙◌, false, cond, Ok, Err, refl, sym, ap}
use Rattle.tap_carry.specs.Names.{is_name}
use Rattle.tap_host_line.specs.declared.why.Why.TheVariants as why
use Rattle.tap_rule.specs.Node.{settings_of}
use Rattle.tap_wire.specs.Reading.{head_of}
use Rattle.tap_host.specs.Host.{at_head, at_number, refused}
use Rattle.tap_host.proofs.Entering.{not_true}
use Rattle.tap_host.proofs.Steps.{refuses_as, seen_host}
use Rattle.tap_host.proofs.host.Host.by_head.Goals as goal

pub returns-in_default : goal.returns-in_default
returns-in_default c =
    let h = seen_host c.self.inside.actor c.self.inside.mail c.self.inside.intake c.self.inside.begun in
    let read : head_of (settings_of c.self.inside.actor.node.state) c.args.frame.now ≡ Err c.in_default.field-0 =
    ap (λ p. head_of p c.args.frame.now) (sym c.settings.ensures) ∙ sym c.decode_head.ensures.value ∙ c.in_default.is in
    rw (← c.self.view_is)
    (refuses_as c.refuse.result _ _ _ _ h c.args.number why.Damaged
    (ap (at_head h c.args.number c.args.from c.args.seq c.args.frame.now) read) refl c.refuse.ensures)

pub returns-then-ne : goal.returns-then-ne
returns-then-ne c =
    let h = seen_host c.self.inside.actor c.self.inside.mail c.self.inside.intake c.self.inside.begun in
    let head = c.in-Ok.head in
    let read : head_of (settings_of c.self.inside.actor.node.state) c.args.frame.now ≡ Ok c.in-Ok.head =
    ap (λ p. head_of p c.args.frame.now) (sym c.settings.ensures) ∙ sym c.decode_head.ensures.value ∙ c.in-Ok.is in
    let apart : is_name c.in-Ok.head.from c.args.from ≡ false = not_true _ (sym c.if-ne.true ∙ c.ne.ensures) in
    rw (← c.self.view_is)
    (refuses_as c.refuse-then-ne.result _ _ _ _ h c.args.number why.Foreign
    (ap (at_head h c.args.number c.args.from c.args.seq c.args.frame.now) read
    ∙ ap (λ b. cond b (at_number h c.args.number c.args.from c.args.seq c.args.frame.now) (refused h c.args.number why.Foreign)) apart)
    refl c.refuse-then-ne.ensures)
