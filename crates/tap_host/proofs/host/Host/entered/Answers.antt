use Rattle.std.proofs.Common.{◌≡◌, ◌∙◌, ◌+◌, true, false, length, refl, sym, ap, subst}
use Rattle.std.specs.Prelude.{nat_le}
use Rattle.tap_carry.specs.Outbox.{most_frames}
use Rattle.tap_host_line.specs.Texts.{text_of_ack}
use Rattle.tap_node.specs.Outcome.{take_outcome}
use Rattle.tap_host.specs.Actor.{below_given}
use Rattle.tap_host.specs.Host.{HostSeen, IsEntered, host_seen, refused, with_node}
use Rattle.tap_host.specs.Intake.{has_taken}
use Rattle.tap_host.proofs.Steps.{acted_host, after_fault, after_full, after_turn, fault_answer, fills_as, refuses_as, same_taken, seen_host, taken_back, turns_as, turn_answer}
use Rattle.tap_host.proofs.host.Host.entered.Goals as goal

pub returns-then-not-has_room : goal.returns-then-not-has_room
returns-then-not-has_room c = λ before entered.
    let a = c.self.inside.actor in
    let m = c.self.inside.mail in
    let h = seen_host a m c.self.inside.intake c.self.inside.begun in
    let outcome = take_outcome a.node c.args.frame.now in
    let ack = text_of_ack c.args.from c.args.seq in
    let given = turn_answer outcome a.node c.take.new.self.node c.take.result c.in-Ok.turn c.take.ensures.node c.in-Ok.is in
    let numbers : nat_le (c.self.inside.mail.sent + length c.in-Ok.turn.sent) most_frames ≡ false =
    ap (λ n. nat_le (c.self.inside.mail.sent + n) most_frames) (sym c.len.ensures) ∙ sym c.has_room.ensures ∙ c.if-not-has_room.true in
    rw (← c.self.view_is)
    (fills_as c.full.result _ _ _ _ before c.args.number
    (after_full before h c.args.number ack outcome c.in-Ok.turn given.0 numbers) c.full.ensures)

pub returns-in_ok-put_ack-in-Ok : goal.returns-in_ok-put_ack-in-Ok
returns-in_ok-put_ack-in-Ok c = λ before entered.
    let a = c.self.inside.actor in
    let m = c.self.inside.mail in
    let i = c.self.inside.intake in
    let b = c.self.inside.begun in
    let h = seen_host a m i b in
    let x = c.take.new.self in
    let turn = c.in-Ok.turn in
    let outcome = take_outcome a.node c.args.frame.now in
    let ack = text_of_ack c.args.from c.args.seq in
    let given = turn_answer outcome a.node x.node c.take.result turn c.take.ensures.node c.in-Ok.is in
    let numbers : nat_le (c.self.inside.mail.sent + length c.in-Ok.turn.sent) most_frames ≡ true =
    ap (λ n. nat_le (c.self.inside.mail.sent + n) most_frames) (sym c.len.ensures) ∙ sym c.has_room.ensures ∙ c.if-not-has_room.false in
    let below = c.take.ensures.below ∙ ap (below_given a.casts_below) c.in-Ok.is in
    rw (← c.self.view_is)
    (turns_as c.turned.result _ _ _ _ (seen_host x m i b) (with_node h x.node turn) turn ack c.put_ack.new.out.items
    (after_turn before h c.args.number ack outcome x.node turn given.0 given.1 numbers)
    (acted_host a x m i i b (has_taken i) turn below refl) c.in_ok-put_ack-in-Ok.ensures c.turned.ensures)

pub returns-in_ok-give_back-in-Err : goal.returns-in_ok-give_back-in-Err
returns-in_ok-give_back-in-Err c = λ before entered.
    let a = c.self.inside.actor in
    let m = c.self.inside.mail in
    let i = c.self.inside.intake in
    let h = seen_host a m i c.self.inside.begun in
    let x = c.take.new.self in
    let fault = c.in-Err.fault in
    let frame = c.args.frame.now in
    let outcome = take_outcome a.node frame in
    let ack = text_of_ack c.args.from c.args.seq in
    let given = fault_answer outcome a.node x.node c.take.result fault c.take.ensures.node c.in-Err.is c.in_ok-why-in-Err.ensures.memory in
    let node = given.1 ∙ same_taken a.node fault frame given.0 in
    let below = c.take.ensures.below ∙ ap (below_given a.casts_below) c.in-Err.is in
    let same : x ≡ a = λ j. record { node = node j; casts_below = below j } in
    let is = (subst (λ v. IsEntered before (host_seen v) c.args.from c.args.seq) (sym c.self.view_is) entered).1 in
    let actor = same ∙ ap (λ (s : HostSeen). s.actor) is in
    let mail = ap (λ (s : HostSeen). s.mail) is in
    let begun = ap (λ (s : HostSeen). s.begun) is in
    let taken =
    taken_back before.taken i c.args.from c.args.seq (λ y k. ap (λ (s : HostSeen). s.taken y k) is) c.give_back.new.self entered.0
    c.in_ok-give_back-in-Err.ensures in
    rw (← c.self.view_is)
    (refuses_as c.refuse.result _ _ _ _ before c.args.number c.in_ok-why-in-Err.why
    (after_fault before h c.args.number ack outcome fault given.0 ∙ ap (refused before c.args.number) (sym c.in_ok-why-in-Err.ensures.why))
    (λ j. record { actor = actor j; mail = mail j; taken = taken j; begun = begun j }) c.refuse.ensures)
