use Rattle.std.proofs.Common.{◌≡◌, ◌∙◌, true, false, sym, ap}
use Rattle.tap_host_line.specs.Texts.{text_of_ack}
use Rattle.tap_node.specs.Outcome.{take_outcome}
use Rattle.tap_wire.specs.Names.{sender_in}
use Rattle.tap_rule.specs.Node.{settings_of}
use Rattle.tap_host.specs.Host.{host_seen}
use Rattle.tap_host.specs.Intake.{has_taken}
use Rattle.tap_host.specs.Mail.{mail_seen}
use Rattle.tap_host.proofs.Entering.{not_false, not_true}
use Rattle.tap_host.proofs.Heads.{head_steps, same_head}
use Rattle.tap_host.proofs.Steps.{entered_as, seen_host, taken_again, taken_now, there}
use Rattle.tap_host.proofs.host.Host.packet.Goals.{then-is_ready+then-stands_as_sender+in_ok-enter+else-branch, else-is_ready}
use Rattle.tap_host.proofs.host.Host.packet.Goals as goal

pub entered-requires-clause-entered : goal.entered-requires-clause-entered
entered-requires-clause-entered c =
    there (has_taken c.self.inside.intake) c.enter.new.self c.args.from c.args.seq c.in_ok-enter.ensures.after

pub returns-then-branch : goal.returns-then-branch
returns-then-branch c =
    let a = c.self.inside.actor in
    let m = c.self.inside.mail in
    let i0 = c.self.inside.intake in
    let i1 = c.enter.new.self in
    let b = c.self.inside.begun in
    let from = c.args.from in
    let seq = c.args.seq in
    let number = c.args.number in
    let frame = c.args.frame.now in
    let taken : has_taken c.self.inside.intake c.args.from c.args.seq ≡ false =
    not_true _ (sym c.if-branch.true ∙ c.in_ok-enter.ensures.first) in
    let stands : sender_in (settings_of c.self.inside.actor.node.state) c.args.frame.now ≡ c.args.from =
    ap (λ p. sender_in p c.args.frame.now) (sym c.settings.ensures) ∙ c.if-stands_as_sender.ensures in
    let now = taken_now (has_taken i0) i1 from seq c.in_ok-enter.ensures.after in
    rw (← c.self.view_is)
    (entered_as c.entered.result (seen_host a m i0 b) (seen_host a m i1 b) _ _ number from seq (text_of_ack from seq) (take_outcome a.node frame) _ _
    (head_steps a m i0 b number from seq frame taken c.if-is_ready.ensures.room c.if-is_ready.ensures.runs stands)
    (λ j. record { actor = a; mail = mail_seen m; taken = now j; begun = b })
    (c.entered.ensures (seen_host a m i0 b) (taken, (λ j. record { actor = a; mail = mail_seen m; taken = now j; begun = b }))))

pub returns : goal.returns
returns c =
    let a = c.self.inside.actor in
    let m = c.self.inside.mail in
    let i0 = c.self.inside.intake in
    let b = c.self.inside.begun in
    let from = c.args.from in
    let seq = c.args.seq in
    let same : host_seen c.if-is_ready.self ≡ host_seen c.args.self.now = elim c.if-is_ready.branch [
      | then-is_ready+then-stands_as_sender+in_ok-enter+else-branch w ↦
          let i1 = w.enter.new.self in
          let taken : has_taken c.self.inside.intake c.args.from c.args.seq ≡ true =
          not_false _ (sym w.if-branch.false ∙ w.in_ok-enter.ensures.first) in
          ap host_seen w.self-is
          ∙ (λ j. record {
            actor = a;
            mail = mail_seen m;
            taken = taken_again (has_taken i0) i1 from seq w.in_ok-enter.ensures.after taken j;
            begun = b;
          })
          ∙ ap host_seen c.self.view_is
      | else-is_ready w ↦ ap host_seen w.self-is
    ] in
    same_head c.by_head.result (host_seen c.if-is_ready.self) (host_seen c.args.self.now) (host_seen c.by_head.new.self) c.args.number from seq
    c.args.frame.now _ _ same c.by_head.ensures
