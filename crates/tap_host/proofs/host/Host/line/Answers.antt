use Rattle.std.proofs.Common.{◌≡◌, ◌∙◌, None, refl, sym, ap}
use Rattle.tap_host_line.specs.declared.why.Why.TheVariants as why
use Rattle.tap_host_line.specs.Line.{node_line_of_text}
use Rattle.tap_rule.specs.Node.{settings_of}
use Rattle.tap_host.specs.Host.{host_step}
use Rattle.tap_host.proofs.Steps.{refuses_as, seen_host}
use Rattle.tap_host.proofs.host.Host.line.Goals as goal

pub returns-in-None : goal.returns-in-None
returns-in-None c =
    let h = seen_host c.self.inside.actor c.self.inside.mail c.self.inside.intake c.self.inside.begun in
    let none : node_line_of_text (settings_of c.self.inside.actor.node.state) c.args.text.now ≡ None =
    ap (λ p. node_line_of_text p c.args.text.now) (sym c.settings.ensures) ∙ sym c.in_ok-line.ensures.value ∙ c.in-None.is in
    rw (← c.self.view_is)
    (refuses_as c.refuse.result _ _ _ _ h c.args.number why.Line (ap (host_step h c.args.number) none) refl c.refuse.ensures)
