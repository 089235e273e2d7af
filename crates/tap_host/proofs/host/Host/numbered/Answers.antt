use Rattle.std.proofs.Common.{◌≡◌, ◌∙◌, true, false, sym, ap}
use Rattle.tap_host_line.specs.Texts.{text_of_ack}
use Rattle.tap_node.specs.Node.{has_room_left}
use Rattle.tap_node.specs.Outcome.{take_outcome}
use Rattle.tap_host.specs.Intake.{has_taken}
use Rattle.tap_host.specs.Mail.{mail_seen}
use Rattle.tap_host.proofs.Entering.{not_false, not_true}
use Rattle.tap_host.proofs.Steps.{entered_as, fills_as, goes_as, number_again, number_full, number_steps, seen_host, taken_again, taken_now, there}
use Rattle.tap_host.proofs.host.Host.numbered.Goals as goal

pub returns-then-not-branch : goal.returns-then-not-branch
returns-then-not-branch c =
    let first = c.in_ok-enter.ensures.first in
    let a = c.self.inside.actor in
    let m = c.self.inside.mail in
    let i0 = c.self.inside.intake in
    let i1 = c.enter.new.self in
    let b = c.self.inside.begun in
    let from = c.args.from in
    let seq = c.args.seq in
    let number = c.args.number in
    let frame = c.args.frame.now in
    let taken : has_taken c.self.inside.intake c.args.from c.args.seq ≡ true = not_false _ (sym c.if-not-branch.true ∙ first) in
    rw (← c.self.view_is)
    (goes_as _ _ _ _ (seen_host a m i0 b) (text_of_ack from seq) (number_again a m i0 b number from seq frame taken)
    (λ j. record { actor = a; mail = mail_seen m; taken = taken_again (has_taken i0) i1 from seq c.in_ok-enter.ensures.after taken j; begun = b })
    c.in_ok-put_ack.ensures)

pub returns-then-not-room : goal.returns-then-not-room
returns-then-not-room c =
    let first = c.in_ok-enter.ensures.first in
    let a = c.self.inside.actor in
    let m = c.self.inside.mail in
    let i0 = c.self.inside.intake in
    let i1 = c.enter.new.self in
    let b = c.self.inside.begun in
    let from = c.args.from in
    let seq = c.args.seq in
    let number = c.args.number in
    let frame = c.args.frame.now in
    let taken : has_taken c.self.inside.intake c.args.from c.args.seq ≡ false = not_true _ (sym c.if-not-branch.false ∙ first) in
    let room : has_room_left c.self.inside.actor.node ≡ false =
    ap has_room_left (sym c.node.ensures) ∙ sym c.room.ensures ∙ c.if-not-room.true in
    rw (← c.self.view_is)
    (fills_as c.full.result _ _ _ _ (seen_host a m i0 b) number (number_full a m i0 b number from seq frame taken room) c.full.ensures)

pub entered-requires-clause-entered : goal.entered-requires-clause-entered
entered-requires-clause-entered c =
    there (has_taken c.self.inside.intake) c.enter.new.self c.args.from c.args.seq c.in_ok-enter.ensures.after

pub returns : goal.returns
returns c =
    let first = c.in_ok-enter.ensures.first in
    let a = c.self.inside.actor in
    let m = c.self.inside.mail in
    let i0 = c.self.inside.intake in
    let i1 = c.enter.new.self in
    let b = c.self.inside.begun in
    let from = c.args.from in
    let seq = c.args.seq in
    let number = c.args.number in
    let frame = c.args.frame.now in
    let taken : has_taken c.self.inside.intake c.args.from c.args.seq ≡ false = not_true _ (sym c.if-not-branch.false ∙ first) in
    let room : has_room_left c.self.inside.actor.node ≡ true =
    ap has_room_left (sym c.node.ensures) ∙ sym c.room.ensures ∙ c.if-not-room.false in
    let h = seen_host a m i0 b in
    let now = taken_now (has_taken i0) i1 from seq c.in_ok-enter.ensures.after in
    rw (← c.self.view_is)
    (entered_as c.entered.result h (seen_host a m i1 b) _ _ number from seq (text_of_ack from seq) (take_outcome a.node frame) _ _
    (number_steps a m i0 b number from seq frame taken room)
    (λ j. record { actor = a; mail = mail_seen m; taken = now j; begun = b })
    (c.entered.ensures h (taken, (λ j. record { actor = a; mail = mail_seen m; taken = now j; begun = b }))))
