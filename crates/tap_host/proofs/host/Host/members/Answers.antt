use Rattle.std.proofs.Common.{◌≡◌, ◌∙◌, true, false, refl, sym, ap}
use Rattle.tap_name.specs.Names.{has_name}
use Rattle.tap_rule.specs.Node.{name_of, settings_of, member_at_rest}
use Rattle.tap_node.specs.Node.{NodeValue, running}
use Rattle.tap_host_line.specs.declared.why.Why.TheVariants as why
use Rattle.tap_host_line.specs.Texts.{text_of_begun}
use Rattle.tap_host.specs.Intake.{has_taken}
use Rattle.tap_host.specs.Mail.{mail_seen}
use Rattle.tap_host.proofs.Steps.{goes_as, members_join, members_late, members_strange, refuses_as}
use Rattle.tap_host.proofs.host.Host.members.Goals as goal

pub returns-then-self : goal.returns-then-self
returns-then-self c = rw (← c.self.view_is)
    (refuses_as c.refuse.result _ _ _ _ _ c.args.number why.Late
    (members_late c.self.inside.actor c.self.inside.mail c.self.inside.intake c.self.inside.begun c.args.number c.args.names.now c.if-self.true)
    refl c.refuse.ensures)

pub returns-then-not-contains : goal.returns-then-not-contains
returns-then-not-contains c =
    let name = c.name-name.ensures ∙ ap (λ (n : NodeValue). name_of n.state) c.node.ensures in
    let named : has_name c.args.names.now (name_of c.self.inside.actor.node.state) ≡ false =
    ap (has_name c.args.names.now) (sym name) ∙ ap (λ l. has_name l c.name-name.result) (sym c.as_slice.ensures)
    ∙ sym c.contains.ensures.value ∙ c.if-not-contains.true in
    rw (← c.self.view_is)
    (refuses_as c.refuse-then-not-contains.result _ _ _ _ _ c.args.number why.Stranger
    (members_strange c.self.inside.actor c.self.inside.mail c.self.inside.intake c.self.inside.begun c.args.number c.args.names.now
    c.if-self.false named)
    refl c.refuse-then-not-contains.ensures)

pub returns : goal.returns
returns c =
    let name = c.name-name.ensures ∙ ap (λ (n : NodeValue). name_of n.state) c.node.ensures in
    let named : has_name c.args.names.now (name_of c.self.inside.actor.node.state) ≡ true =
    ap (has_name c.args.names.now) (sym name) ∙ ap (λ l. has_name l c.name-name.result) (sym c.as_slice.ensures)
    ∙ sym c.contains.ensures.value ∙ c.if-not-contains.false in
    rw (← c.self.view_is)
    (goes_as _ _ _ _ _ text_of_begun
    (members_join c.self.inside.actor c.self.inside.mail c.self.inside.intake c.self.inside.begun c.args.number c.args.names.now c.if-self.false named)
    (λ i. record {
      actor = (c.in_ok-self-inside.ensures
          ∙ ap (λ p. record { node = running (member_at_rest p c.args.names.now c.name-name.result); casts_below = 0 }) c.settings.ensures
          ∙ ap (λ n. record {
            node = running (member_at_rest (settings_of c.self.inside.actor.node.state) c.args.names.now n);
            casts_below = 0;
          }) name) i;
      mail = mail_seen c.self.inside.mail;
      taken = has_taken c.self.inside.intake;
      begun = true;
    })
    c.in_ok-put_begun.ensures)
