use Rattle.std.proofs.Common.{◌≡◌, ◌++◌, ◌∙◌, List, sym, ap, subst, arith}
use Rattle.tap_host.specs.Mail.{AreNumbered, Letter}
use Rattle.tap_host.proofs.Letters.{mail_of}
use Rattle.tap_host.proofs.Numbered.{Frames, all_are_kept, kept_of, letters_kept, numbered_kept}
use Rattle.tap_host.proofs.mail.Mail.leave_out.Goals as goal

pub invariant_of-self : goal.invariant_of-self
invariant_of-self c =
    let box = c.self.inside.outbox in
    let frames = c.self.inside.frames.items in
    let items = c.deref-item-items.ensures.value ∙ c.in_ok-gather.ensures.all ∙ ap (λ l. l ++ c.self.inside.outbox.awaits) c.new-awaits.ensures.items in
    let kept : c.loop-item.kept.items ≡ kept_of c.self.inside.frames.items c.self.inside.outbox.awaits =
    all_are_kept frames c.loop-item.kept.items _ box.awaits c.loop-item.item-index c.loop-item.invariant (omega (arith, c.loop-item-test.false)) items in
    subst (λ k. AreNumbered k box.next) (sym kept)
    (numbered_kept frames box.awaits box.next c.awaiting.ensures.valid.ascending c.awaiting.ensures.valid.sent)

pub returns : goal.returns
returns c =
    let box = c.self.inside.outbox in
    let frames = c.self.inside.frames.items in
    let items = c.deref-item-items.ensures.value ∙ c.in_ok-gather.ensures.all ∙ ap (λ l. l ++ c.self.inside.outbox.awaits) c.new-awaits.ensures.items in
    let kept : c.loop-item.kept.items ≡ kept_of c.self.inside.frames.items c.self.inside.outbox.awaits =
    all_are_kept frames c.loop-item.kept.items _ box.awaits c.loop-item.item-index c.loop-item.invariant (omega (arith, c.loop-item-test.false)) items in
    ap (λ (k : Frames). mail_of box k) kept
    ∙ ap (λ (l : List Letter). record { letters = l; last = box.last; sent = box.next }) (letters_kept frames box.awaits)
    ∙ c.self.view_is
