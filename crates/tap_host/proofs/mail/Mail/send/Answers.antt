use Rattle.std.proofs.Common.{◌∙◌, ap}
use Rattle.tap_host.specs.Mail.{mail_seen}
use Rattle.tap_host.proofs.Letters.{mail_of, sent_mail}
use Rattle.tap_host.proofs.mail.Mail.send.Goals as goal

pub returns-clause-mail : goal.returns-clause-mail
returns-clause-mail c = rw (← c.self.view_is)
    (ap (λ frames. mail_seen (mail_of c.send.new.self frames)) c.in_ok-push.ensures.items
    ∙ sent_mail c.self.inside.outbox c.send.new.self c.self.inside.frames.items c.args.to c.next-number.result c.args.frame
    c.awaiting-given.ensures.valid c.self.invariant c.next-number.ensures.next c.in_ok-seq.ensures.after)
