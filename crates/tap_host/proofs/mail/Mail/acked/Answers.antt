use Rattle.std.proofs.Common.{◌∙◌, ap}
use Rattle.tap_host.specs.Mail.{mail_seen}
use Rattle.tap_host.proofs.Letters.{acked_mail}
use Rattle.tap_host.proofs.mail.Mail.acked.Goals as goal

pub returns : goal.returns
returns c = rw (← c.self.view_is)
    (ap mail_seen c.leave_out_all.ensures
    ∙ acked_mail c.self.inside.outbox c.acked-awaited.new.self c.self.inside.frames.items c.args.from c.args.seq c.acked-awaited.ensures.after)
